-- `layout::u16_at` meets its contract, by the laws of Numbers. Assumes nothing.
use mathlib.Core.Path.{sym}
use native.Mathlib.Omega.{arith}
use Rattle.layout.proofs.Numbers.{past, two}
use Rattle.layout.proofs.u16_at.Goals as goal

pub returns-then-s-at : goal.returns-then-s-at
returns-then-s-at c = sym (past 2 _ _ c.if-s-at.true)

pub returns : goal.returns
returns c = rw two (omega arith)
