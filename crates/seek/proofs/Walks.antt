-- The walk of a seek: each record ends further on, so counting the steps by more than the bytes left changes nothing; and what it answers is a record that it met, not earlier than the target. Assumes nothing.
use Prim.Native.Nat.{ℕ, zero, suc, ◌-◌, ◌≤◌, ◌<◌}
use borrow.Author.Tests.{lt-ltb, le-ltb}
use lib.Dec.{ltb}
use lib.IntN.{ℤ}
use lib.Signed.{lt_z}
use mathlib.Core.Bool.{Bool, true, false, cond, ◌&&◌}
use Rattle.std.specs.Prelude.{Option, None, Some}
use mathlib.Core.Path.{◌≡◌, refl, sym, ap, ◌∙◌}
use native.Mathlib.Decide.{dec_lt}
use native.Mathlib.Omega.{arith}
use Rattle.span.proofs.Steady.{steady}
use Rattle.span.proofs.Meets.{Meets, met_at, ends_after}
use Rattle.span.specs.Met.{MetTold}
use Rattle.seek.specs.Seek.{earlier, walked}

-- a place that a search met a record at, whose time is not earlier than the target
pub record Answer (met : ℕ → MetTold) (target : ℤ) (r : ℕ) : Type 0 where
  pub from : ℕ
  pub is_met : (met from).is_found ≡ true
  pub place : (met from).offset ≡ r
  pub late : lt_z (met from).millis target ≡ false

module _ (met : ℕ → MetTold) (n : ℕ) (ms : Meets met n) (target : ℤ) where
  abbrev walk : ℕ → ℕ → Option ℕ
  walk k at = walked met n target k at

  pub at_end : (k at : ℕ) → n ≤ at → walk k at ≡ None
  unfolding walked
  at_end zero at past = refl
  at_end (suc k) at past = simp (le-ltb at n past)

  pub none_met_at : (k at : ℕ) → (met at).is_found ≡ false → walk k at ≡ None
  unfolding walked
  none_met_at zero at e = refl
  none_met_at (suc k) at e = none_by (ltb at n)
    where
      none_by : (b : Bool) → cond (b && (met at).is_found) (cond (earlier target (met at)) (walked met n target k (met at).end) (Some (met at).offset)) None ≡ None
      none_by true = simp e
      none_by false = refl

  module _ (k at : ℕ) (inside : at < n) (is : (met at).is_found ≡ true) where
    pub not_earlier : lt_z (met at).millis target ≡ false → walk (suc k) at ≡ Some (met at).offset
    unfolding walked
    not_earlier e = simp (lt-ltb at n inside, is, e)

    pub step : lt_z (met at).millis target ≡ true → walk (suc k) at ≡ walk k (met at).end
    unfolding walked
    step e = simp (lt-ltb at n inside, is, e)

  same_by :
      (k at : ℕ) → n - at ≤ suc k → Dec (at < n) → (b e : Bool) → (met at).is_found ≡ b → lt_z (met at).millis target ≡ e
      → ((i : ℕ) → n - i ≤ k → walk k i ≡ walk (suc k) i) → walk (suc k) at ≡ walk (suc (suc k)) at
  same_by k at enough (no h) b e is q ih = at_end (suc k) at (omega arith) ∙ sym (at_end (suc (suc k)) at (omega arith))
  same_by k at enough (yes h) false e is q ih = none_met_at (suc k) at is ∙ sym (none_met_at (suc (suc k)) at is)
  same_by k at enough (yes h) true false is q ih = not_earlier k at h is q ∙ sym (not_earlier (suc k) at h is q)
  same_by k at enough (yes h) true true is q ih =
      step k at h is q ∙ ih (met at).end (omega (arith, ends_after met n ms at is)) ∙ sym (step (suc k) at h is q)

  same : (k at : ℕ) → n - at ≤ k → walk k at ≡ walk (suc k) at
  same zero at enough = at_end zero at (omega arith) ∙ sym (at_end (suc zero) at (omega arith))
  same (suc k) at enough = same_by k at enough (dec_lt at n) (met at).is_found (lt_z (met at).millis target) refl refl (same k)

  -- counting further changes nothing
  pub more_steps : (at k j : ℕ) → n - at ≤ k → k ≤ j → walk k at ≡ walk j at
  more_steps at = steady (λ (k : ℕ). walk k at) (n - at) (λ k enough. same k at enough)

  -- one record passed, counted by as many steps
  pub one_passed : (k at : ℕ) → n - at ≤ k → at < n → (met at).is_found ≡ true → lt_z (met at).millis target ≡ true → walk k at ≡ walk k (met at).end
  one_passed zero at enough inside is e = absurd (omega arith)
  one_passed (suc k) at enough inside is e = step k at inside is e ∙ same k (met at).end (omega (arith, ends_after met n ms at is))

  -- and the record that is the answer
  pub one_found : (k at : ℕ) → n - at ≤ k → at < n → (met at).is_found ≡ true → lt_z (met at).millis target ≡ false → walk k at ≡ Some (met at).offset
  one_found zero at enough inside is e = absurd (omega arith)
  one_found (suc k) at enough inside is e = not_earlier k at inside is e

  -- in the numbers of the record
  module _ (k at : ℕ) (enough : n - at ≤ k) (inside : at < n) (o end : ℕ) (t : ℤ) (e : met_at o end t ≡ met at) where
    is_there : (met at).is_found ≡ true
    is_there = sym (ap (λ (m : MetTold). m.is_found) e)

    compared : (b : Bool) → lt_z t target ≡ b → lt_z (met at).millis target ≡ b
    compared b q = ap (λ (m : MetTold). lt_z m.millis target) (sym e) ∙ q

    pub passes : lt_z t target ≡ true → walk k at ≡ walk k end
    passes q = one_passed k at enough inside is_there (compared true q) ∙ ap (λ (m : MetTold). walk k m.end) (sym e)

    pub answers : lt_z t target ≡ false → walk k at ≡ Some o
    answers q = one_found k at enough inside is_there (compared false q) ∙ ap (λ (m : MetTold). Some m.offset) (sym e)

  -- what is answered was met, and is not earlier than the target
  found_by :
      (k at r : ℕ) → Dec (at < n) → (b e : Bool) → (met at).is_found ≡ b → lt_z (met at).millis target ≡ e
      → ((i : ℕ) → walk k i ≡ Some r → Answer met target r)
      → walk (suc k) at ≡ Some r → Answer met target r
  found_by k at r (no h) b e is q ih w = absurd (let z : ◌≡◌ {A = Option ℕ} None (Some r) = sym (at_end (suc k) at (omega arith)) ∙ w in let y : ◌≡◌ {A = ℕ} 0 1 = cc in omega arith)
  found_by k at r (yes h) false e is q ih w = absurd (let z : ◌≡◌ {A = Option ℕ} None (Some r) = sym (none_met_at (suc k) at is) ∙ w in let y : ◌≡◌ {A = ℕ} 0 1 = cc in omega arith)
  found_by k at r (yes h) true true is q ih w = ih (met at).end (sym (step k at h is q) ∙ w)
  found_by k at r (yes h) true false is q ih w =
      let z : Some (met at).offset ≡ Some r = sym (not_earlier k at h is q) ∙ w in
      let same_place : (met at).offset ≡ r = cc in
      record { from = at; is_met = is; place = same_place; late = q }

  pub found_met : (k at r : ℕ) → walk k at ≡ Some r → Answer met target r
  unfolding walked
  found_met zero at r w = absurd (let y : ◌≡◌ {A = ℕ} 0 1 = cc in omega arith)
  found_met (suc k) at r w =
      found_by k at r (dec_lt at n) (met at).is_found (lt_z (met at).millis target) refl refl (λ i. found_met k i r) w
