-- `span::last_back` meets its contract. The loop's invariant: walking back from here on answers what walking back from the first place does. Assumes nothing.
use Prim.Native.Nat.{suc, ◌-◌, ◌<◌}
use lib.ListN.{length}
use mathlib.Core.Path.{◌≡◌}
use Rattle.span.specs.Met.{meet_in}
use Rattle.span.specs.Span.{last_back}
use Rattle.span.proofs.last_back.Given as goal

abbrev pub invariant-loop-met : goal.invariant-loop-met
invariant-loop-met l =
    (0 < l.back)
    × (last_back (meet_in l.trace.kinds.now l.trace.bytes.now) (length l.trace.bytes.now) (suc (length l.trace.bytes.now)) 1048576
    ≡ last_back (meet_in l.trace.kinds.now l.trace.bytes.now) (length l.trace.bytes.now) (suc (length l.trace.bytes.now)) l.back)

abbrev pub decreases-loop-met : goal.decreases-loop-met
decreases-loop-met l = length l.trace.bytes.now - l.back
