-- `seek::walk` meets its contract. The loop's invariant: the walk from here on answers what the walk from the start does. Assumes nothing.
use Prim.Native.Nat.{◌-◌, ◌≤◌}
use lib.ListN.{length}
use mathlib.Core.Path.{◌≡◌}
use Rattle.span.specs.Met.{meet_in}
use Rattle.seek.specs.Seek.{walked}
use Rattle.seek.proofs.walk.Given as goal

abbrev pub invariant-loop-met : goal.invariant-loop-met
invariant-loop-met l =
    (l.at ≤ length l.trace.bytes.now)
    × (walked (meet_in l.trace.kinds.now l.trace.bytes.now) (length l.trace.bytes.now) l.target (length l.trace.bytes.now) l.from
    ≡ walked (meet_in l.trace.kinds.now l.trace.bytes.now) (length l.trace.bytes.now) l.target (length l.trace.bytes.now) l.at)

abbrev pub decreases-loop-met : goal.decreases-loop-met
decreases-loop-met l = length l.trace.bytes.now - l.at
