-- The invariant of `fill`'s loop: the place reached is one that a page comes to, and the rows written and those from it on are the n rows. Assumes
-- nothing.
use Rattle.std.proofs.Common.{◌≡◌, ◌-◌, ◌++◌, take}
use Rattle.record.specs.Record.{plausible}
use Rattle.steps.specs.Step.{Sound, rows_of}
use Rattle.cursor.proofs.fill.Given as goal

abbrev pub invariant-loop-row : goal.invariant-loop-row
invariant-loop-row l =
    let kinds = l.trace.kinds.now in let s = l.trace.bytes.now in
    Sound l.at × (take l.row-index l.row-items ++ rows_of plausible kinds s l.at (l.n - l.row-index) ≡ rows_of plausible kinds s l.fn.place l.n)
