-- A number that is not below zero is not negative. Assumes nothing.
use Prim.Native.Nat.{ℕ, ◌<◌}
use lib.Dec.{ltb}
use mathlib.Core.Bool.{true}
use mathlib.Core.Path.{◌≡◌}
use borrow.Author.Tests.{ltb-true}
use native.Mathlib.Omega.{arith}

pub clash : {A : Type 0} (n : ℕ) → ltb n 0 ≡ true → A
clash n h = let z : n < 0 = ltb-true n 0 h in absurd (omega arith)
