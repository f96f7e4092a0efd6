-- The first number that passes a test: where it is the one at hand, where it comes later, and where it is known. Assumes nothing.
use Prim.Native.Nat.{ℕ, zero, suc, ◌+◌, ◌≤◌, ◌<◌}
use borrow.Author.Tests.{ltb-true, ltb-false}
use lib.Dec.{ltb}
use mathlib.Core.Bool.{Bool, true, false, ◌&&◌}
use mathlib.Core.Path.{◌≡◌, refl, sym, subst, ◌∙◌}
use native.Mathlib.Nat.{not-suc-le-zero}
use native.Mathlib.Omega.{arith}
use Rattle.choice.proofs.Choice.{either, left_true, right_true}
use Rattle.calendar.specs.Calendar.{first_from}

module _ (test : ℕ → Bool) where
  pub here : (turns n : ℕ) → test n ≡ true → first_from test turns n ≡ n
  unfolding first_from
  here zero n e = refl
  here (suc turns) n e = simp e

  pub on : (turns n : ℕ) → test n ≡ false → first_from test (suc turns) n ≡ first_from test turns (n + 1)
  unfolding first_from
  on turns n e = simp e

  pub last : (n : ℕ) → first_from test 0 n ≡ n
  unfolding first_from
  last n = refl

  pub found : (turns n k : ℕ) → n ≤ k → k ≤ n + turns → ((j : ℕ) → j < k → test j ≡ false) → test k ≡ true → first_from test turns n ≡ k
  found zero n k low high none e = last n ∙ omega arith
  found (suc turns) n k low high none e =
      either (ltb n k)
      (λ l. let h : n < k = ltb-true n k l in on turns n (none n h) ∙ found turns (n + 1) k (omega arith) (omega arith) none e)
      (λ l. let q : k ≡ n = omega (arith, ltb-false n k l) in here (suc turns) n (subst (λ (x : ℕ). test x ≡ true) q e) ∙ sym q)

-- whether a test passes at each number below a bound, which is computed
abbrev pub all_below : (ℕ → Bool) → ℕ → Bool
all_below f zero = true
all_below f (suc n) = f n && all_below f n

pub below : (f : ℕ → Bool) (n : ℕ) → all_below f n ≡ true → (k : ℕ) → k < n → f k ≡ true
below f zero e k h = absurd (not-suc-le-zero h)
below f (suc n) e k h =
    either (ltb k n)
    (λ l. below f n (right_true (f n) (all_below f n) e) k (ltb-true k n l))
    (λ l. let q : n ≡ k = omega (arith, ltb-false k n l) in subst (λ (x : ℕ). f x ≡ true) q (left_true (f n) (all_below f n) e))
