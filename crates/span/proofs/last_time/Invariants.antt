-- `span::last_time` meets its contract. The loop's invariant: the last time from here on is the last time from the start. Assumes nothing.
use Prim.Native.Nat.{◌-◌, ◌≤◌}
use lib.ListN.{length}
use mathlib.Core.Path.{◌≡◌}
use lib.IntN.{pos}
use Rattle.span.specs.Met.{meet_in}
use Rattle.span.specs.Span.{last_time}
use Rattle.span.proofs.last_time.Given as goal

abbrev pub invariant-loop-met : goal.invariant-loop-met
invariant-loop-met l =
    (l.at ≤ length l.trace.bytes.now)
    × (last_time (meet_in l.trace.kinds.now l.trace.bytes.now) (length l.trace.bytes.now) l.from (pos l.time)
    ≡ last_time (meet_in l.trace.kinds.now l.trace.bytes.now) (length l.trace.bytes.now) l.at (pos l.last))

abbrev pub decreases-loop-met : goal.decreases-loop-met
decreases-loop-met l = length l.trace.bytes.now - l.at
