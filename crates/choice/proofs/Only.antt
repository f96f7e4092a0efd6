-- That what is told of an answer determines it: from what is told the answer can be made again. Assumes nothing.
use Prim.Native.Nat.{ℕ}
use lib.IntN.{ℤ, pos, negsuc}
use mathlib.Core.Path.{◌≡◌, sym, ap, ◌∙◌}

module _ {A B : Type 0} (told : A → B) (back : B → A) (same : (a : A) → back (told a) ≡ a) where
  pub only : (a b : A) → told a ≡ told b → a ≡ b
  only a b e = sym (same a) ∙ ap back e ∙ same b

-- a number of milliseconds, as an answer holds it
unfoldable pub number : ℤ → ℕ
number (pos n) = n
number (negsuc n) = 0
