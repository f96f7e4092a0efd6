-- `rows::frame_count` meets its contract. The invariant: the frames counted and those from the place reached are all there are, and no more
-- are counted than bytes are passed. The measure is what is left of the payload. Assumes nothing.
use Prim.Native.Nat.{◌+◌, ◌-◌, ◌≤◌}
use lib.ListN.{length}
use mathlib.Core.Path.{◌≡◌}
use Rattle.rows.specs.Frames.{frames_from}
use Rattle.rows.proofs.frame_count.Given as goal

abbrev pub invariant-loop-found : goal.invariant-loop-found
invariant-loop-found l = (l.count + length (frames_from l.kind l.outgoing l.payload l.at) ≡ length (frames_from l.kind l.outgoing l.payload 0)) × (l.count ≤ l.at)

abbrev pub decreases-loop-found : goal.decreases-loop-found
decreases-loop-found l = length l.payload - l.at
