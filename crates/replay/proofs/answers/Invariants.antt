-- `replay::answers` meets its contract: it is safe and ends. Assumes nothing.
use Rattle.std.proofs.Common.{◌≡◌, ◌-◌, ◌≤◌, length}
use Rattle.replay.proofs.answers.Given as goal

abbrev pub invariant-loop-at : goal.invariant-loop-at
invariant-loop-at g l = record {
  in_cases : l.at ≤ length l.cases;
  counted : l.count ≤ l.at;
  ordered : l.part.start ≤ l.part.end;
  before : l.part.end ≤ l.at;
  len : length l.cases ≡ length l.initial.cases;
}

abbrev pub decreases-loop-at : goal.decreases-loop-at
decreases-loop-at g l = length l.initial.cases - l.at
