-- `plain::plain_from` meets its contract. The loop's invariant: the plain walk from here on answers what the one from the first record does.
-- The measure is what is left of the trace. Assumes nothing.
use Prim.Native.Nat.{◌-◌}
use lib.ListN.{length}
use mathlib.Core.Path.{◌≡◌}
use Rattle.record.specs.Record.{plausible}
use Rattle.span.specs.Met.{trace_of}
use Rattle.plain.specs.Plain.{plain_from}
use Rattle.plain.proofs.plain_from.Given as goal

abbrev pub invariant-loop-header : goal.invariant-loop-header
invariant-loop-header l =
    plain_from (trace_of plausible l.trace.kinds.now l.trace.bytes.now) l.time_ms l.first ≡ plain_from (trace_of plausible l.trace.kinds.now l.trace.bytes.now) l.time_ms l.at

abbrev pub decreases-loop-header : goal.decreases-loop-header
decreases-loop-header l = length l.trace.bytes.now - l.at
