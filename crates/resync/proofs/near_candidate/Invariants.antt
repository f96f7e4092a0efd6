-- `resync::near_candidate` meets its contract. The loop's invariant: none of the offsets passed begins a valid record. Assumes nothing.
use Rattle.resync.specs.Block.{none_valid}
use Rattle.resync.proofs.near_candidate.Given as goal

abbrev pub invariant-loop-at : goal.invariant-loop-at
invariant-loop-at l = none_valid l.s l.start l.at
