-- `layout::u64_at` meets its contract, by the laws of Numbers. Assumes nothing.
use mathlib.Core.Path.{sym}
use native.Mathlib.Omega.{arith}
use Rattle.layout.proofs.Numbers.{past, eight, eight_bytes}
use Rattle.layout.proofs.u64_at.Goals as goal

pub returns-then-s-at : goal.returns-then-s-at
returns-then-s-at c = sym (past 8 _ _ c.if-s-at.true)

pub returns-then-s-at-ge8 : goal.returns-then-s-at-ge8
returns-then-s-at-ge8 c = rw eight_bytes (omega arith)

pub returns : goal.returns
returns c = rw eight (omega arith)
