-- Laws on tests and on choices by a test (`cond`). Assumes nothing.
use mathlib.Core.Bool.{Bool, true, false, ◌&&◌, cond}
use mathlib.Core.Path.{◌≡◌, refl}

-- both sides of a test that holds
pub left_true : (a b : Bool) → (a && b) ≡ true → a ≡ true
left_true true b e = refl
left_true false b e = e

pub right_true : (a b : Bool) → (a && b) ≡ true → b ≡ true
right_true true b e = e
right_true false b e = let z : false ≡ true = e in cc

-- a test's two outcomes
pub either : {X : Type 0} (t : Bool) → (t ≡ true → X) → (t ≡ false → X) → X
either true x y = x refl
either false x y = y refl

-- what holds of both sides, each where it is chosen, holds of the choice
pub by_choice : {A : Type 0} (P : A → Type 0) (t : Bool) {a b : A} → (t ≡ true → P a) → (t ≡ false → P b) → P (cond t a b)
by_choice P true x y = x refl
by_choice P false x y = y refl
