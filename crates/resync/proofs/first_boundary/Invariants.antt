-- `resync::first_boundary` meets its contract. The loop's invariant: none of the offsets passed is a boundary. Assumes nothing.
use Prim.Native.Nat.{ℕ, ◌≤◌, ◌<◌, ◌-◌}
use lib.ListN.{length}
use mathlib.Core.Bool.{false}
use mathlib.Core.Path.{◌≡◌}
use Rattle.resync.specs.Boundary.{boundary}
use Rattle.record.specs.Record.{plausible, next_at}
use Rattle.resync.proofs.first_boundary.Given as goal

abbrev pub invariant-loop-offset : goal.invariant-loop-offset
invariant-loop-offset l = (l.start ≤ l.offset)
    × ((l.offset ≤ l.limit)
    × ((k : ℕ) → l.start ≤ k → k < l.offset → boundary (next_at plausible l.trace.kinds.now l.trace.bytes.now) (length l.trace.bytes.now) k ≡ false))

abbrev pub decreases-loop-offset : goal.decreases-loop-offset
decreases-loop-offset l = l.limit - l.offset
