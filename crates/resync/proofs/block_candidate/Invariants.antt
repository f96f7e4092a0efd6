-- `resync::block_candidate` meets its contract. The loop's invariant: none of the offsets passed begins a valid record. Assumes nothing.
use Prim.Native.Nat.{◌-◌}
use Rattle.resync.specs.Block.{passed_to}
use Rattle.resync.proofs.block_candidate.Given as goal

abbrev pub invariant-loop-at : goal.invariant-loop-at
invariant-loop-at l = passed_to l.s l.start l.limit l.at

abbrev pub decreases-loop-at : goal.decreases-loop-at
decreases-loop-at l = l.limit - l.at
