-- The walk over a payload's bracket records: more turns than bytes change nothing, so the walk is what its first record makes of the rest.
-- Assumes nothing.
use Prim.Native.Nat.{ℕ, zero, suc, ◌+◌, ◌<◌, ◌≤◌}
use lib.ListN.{length, get_or}
use mathlib.Core.Bool.{true, false, cond, and-false}
use mathlib.Core.List.{List}
use mathlib.Core.Path.{◌≡◌, refl, sym, ap, ◌∙◌}
use native.Mathlib.Nat.{add-zero}
use native.Mathlib.Omega.{arith}
use borrow.Author.Tests.{lt-ltb, le-ltb, eq-eqb}
use Rattle.bracket.specs.Bracket.{length_at, close_at, next_at, good, walk}

module _ (p : List ℕ) (at : ℕ) where
  pub too_short : length p ≤ 4 → good p at ≡ false
  unfolding good
  too_short h = simp (le-ltb 4 (length p) h)

  pub past : length p ≤ close_at p at → good p at ≡ false
  unfolding good
  past h = simp (le-ltb (close_at p at) (length p) h, and-false)

-- a length byte of 0 would have to be the 0x5D itself
some_length : (f : ℕ → ℕ) (a n : ℕ) → f a ≡ n → f (a + n) ≡ 0x5D → 0 < n
some_length f a zero e h = let z : f a ≡ 0x5D = sym (ap f (add-zero a)) ∙ h in omega arith
some_length f a (suc n) e h = omega arith

module _ (p : List ℕ) (at : ℕ) where
  pub is_good : 4 < length p → close_at p at < length p → get_or p at 0 ≡ 0x5B → get_or p (close_at p at) 0 ≡ 0x5D → good p at ≡ true
  unfolding good
  is_good long fits opened closed =
      let some : 0 < length_at p at = some_length (λ (k : ℕ). get_or p k 0) (at + 1) (length_at p at) refl closed in
      simp (lt-ltb _ _ long, lt-ltb _ _ fits, eq-eqb _ _ opened, eq-eqb _ _ closed, lt-ltb _ _ some)

module _ {A : Type 0} (each : ℕ → A → A) (end : A) (p : List ℕ) where
  pub outside : (n at : ℕ) → length p ≤ at → end ≡ walk each end p n at
  unfolding walk
  outside zero at h = refl
  outside (suc n) at h = simp (past p at (omega arith))

  pub enough : (n m at : ℕ) → length p ≤ n + at → length p ≤ m + at → walk each end p n at ≡ walk each end p m at
  unfolding walk
  enough zero m at h k = outside m at (omega arith)
  enough (suc n) zero at h k = sym (outside (suc n) at (omega arith))
  enough (suc n) (suc m) at h k =
      ap (λ (rest : A). cond (good p at) (each at rest) end) (enough n m (next_at p at) (omega arith) (omega arith))

  pub unrolled : (at : ℕ) → walk each end p (length p) at ≡ cond (good p at) (each at (walk each end p (length p) (next_at p at))) end
  unfolding walk
  unrolled at = enough (length p) (suc (length p)) at (omega arith) (omega arith)
