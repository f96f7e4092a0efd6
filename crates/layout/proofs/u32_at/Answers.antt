-- `layout::u32_at` meets its contract, by the laws of Numbers. Assumes nothing.
use mathlib.Core.Path.{sym}
use native.Mathlib.Omega.{arith}
use Rattle.layout.proofs.Numbers.{past, four}
use Rattle.layout.proofs.u32_at.Goals as goal

pub returns-then-s-at : goal.returns-then-s-at
returns-then-s-at c = sym (past 4 _ _ c.if-s-at.true)

pub returns-then-s-at-ge4 : goal.returns-then-s-at-ge4
returns-then-s-at-ge4 c = rw four (omega arith)

pub returns : goal.returns
returns c = rw four (omega arith)
