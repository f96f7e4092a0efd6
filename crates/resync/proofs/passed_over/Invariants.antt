-- `resync::passed_over` meets its contract. The loop's invariant: of the places passed, none before `first` begins a valid record. Assumes nothing.
use Prim.Native.Nat.{◌≤◌, ◌-◌}
use Rattle.resync.proofs.Block.{NoneBefore}
use Rattle.resync.specs.Block.{block}
use Rattle.resync.proofs.passed_over.Given as goal

abbrev pub invariant-loop-i : goal.invariant-loop-i
invariant-loop-i l = (l.i ≤ block) × ((l.first ≤ block) × NoneBefore l.s l.at l.first l.i)

abbrev pub decreases-loop-i : goal.decreases-loop-i
decreases-loop-i l = block - l.i
