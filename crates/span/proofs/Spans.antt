-- The walks of the span: counting the steps further changes nothing, and where there is a first record there is a last one. Assumes nothing.
use Prim.Native.Nat.{ℕ, zero, suc, ◌-◌, ◌*◌, ◌≤◌, ◌<◌}
use borrow.Author.Tests.{lt-ltb, le-ltb}
use lib.IntN.{ℤ}
use mathlib.Core.Bool.{Bool, true, false, false≢true}
use Rattle.std.specs.Prelude.{Option, None, Some}
use mathlib.Core.Path.{◌≡◌, refl, sym, ap, ◌∙◌}
use native.Mathlib.Decide.{dec_lt}
use native.Mathlib.Omega.{arith}
use Rattle.span.proofs.Steady.{steady}
use Rattle.span.proofs.Meets.{Meets, met_at, ends_after, nothing_past}
use Rattle.span.specs.Met.{MetTold}
use Rattle.span.specs.Span.{last_time, last_back}

-- a time that is that of a record after which no search meets another
pub record LastMet (met : ℕ → MetTold) (time_of : ℤ) : Type 0 where
  pub place : ℕ
  pub is_met : (met place).is_found ≡ true
  pub time : (met place).millis ≡ time_of
  pub none_after : (met (met place).end).is_found ≡ false

module _ (met : ℕ → MetTold) (n : ℕ) (ms : Meets met n) where
  pub last_none : (k at : ℕ) (time : ℤ) → (met at).is_found ≡ false → last_time met k at time ≡ time
  unfolding last_time
  last_none zero at time e = refl
  last_none (suc k) at time e = rw e

  last_step : (k at : ℕ) (time : ℤ) → (met at).is_found ≡ true → last_time met (suc k) at time ≡ last_time met k (met at).end (met at).millis
  unfolding last_time
  last_step k at time e = rw e

  pub last_past : (k at : ℕ) (time : ℤ) → n ≤ at → last_time met k at time ≡ time
  last_past k at time past = last_none k at time (nothing_past met n ms at past)

  last_same_by :
      (k at : ℕ) (time : ℤ) → n - at ≤ suc k → (b : Bool) → (met at).is_found ≡ b
      → ((i : ℕ) (time : ℤ) → n - i ≤ k → last_time met k i time ≡ last_time met (suc k) i time) → last_time met (suc k) at time ≡ last_time met (suc (suc k)) at time
  last_same_by k at time enough false is ih = last_none (suc k) at time is ∙ sym (last_none (suc (suc k)) at time is)
  last_same_by k at time enough true is ih =
      last_step k at time is
      ∙ ih (met at).end (met at).millis (omega (arith, ends_after met n ms at is, ms.inside at is))
      ∙ sym (last_step (suc k) at time is)

  last_same : (k at : ℕ) (time : ℤ) → n - at ≤ k → last_time met k at time ≡ last_time met (suc k) at time
  last_same zero at time enough = last_past zero at time (omega arith) ∙ sym (last_past (suc zero) at time (omega arith))
  last_same (suc k) at time enough = last_same_by k at time enough (met at).is_found refl (last_same k)

  -- counting further changes nothing
  pub last_more_steps : (at : ℕ) (time : ℤ) (k j : ℕ) → n - at ≤ k → k ≤ j → last_time met k at time ≡ last_time met j at time
  last_more_steps at time = steady (λ (k : ℕ). last_time met k at time) (n - at) (λ k enough. last_same k at time enough)

  -- one record more, counted by as many steps
  pub one_more_lem : (k at : ℕ) (time : ℤ) → n - at ≤ k → (met at).is_found ≡ true → last_time met k at time ≡ last_time met k (met at).end (met at).millis
  one_more_lem zero at time enough is = absurd (omega (arith, ends_after met n ms at is, ms.inside at is))
  one_more_lem (suc k) at time enough is =
      last_step k at time is ∙ last_same k (met at).end (met at).millis (omega (arith, ends_after met n ms at is, ms.inside at is))

  pub one_more_met :
      (k at : ℕ) (time : ℤ) → n - at ≤ k → (o end : ℕ) (t : ℤ) → met_at o end t ≡ met at → last_time met k at time ≡ last_time met k end t
  one_more_met k at time enough o end t e =
      one_more_lem k at time enough (sym (ap (λ (m : MetTold). m.is_found) e)) ∙ ap (λ (m : MetTold). last_time met k m.end m.millis) (sym e)

  -- walking back: a record met, the whole trace walked, or four times as far
  pub back_met : (k back : ℕ) → (met (n - back)).is_found ≡ true → last_back met n (suc k) back ≡ Some (last_time met n (met (n - back)).end (met (n - back)).millis)
  unfolding last_back
  back_met k back is = rw is

  pub back_whole : (k back : ℕ) → (met (n - back)).is_found ≡ false → n ≤ back → last_back met n (suc k) back ≡ None
  unfolding last_back
  back_whole k back is past = simp (is, le-ltb back n past)

  back_step : (k back : ℕ) → (met (n - back)).is_found ≡ false → back < n → last_back met n (suc k) back ≡ last_back met n k (back * 4)
  unfolding last_back
  back_step k back is h = simp (is, lt-ltb back n h)

  back_same_by :
      (k back : ℕ) → 0 < back → n - back ≤ suc k → Dec (back < n) → (b : Bool) → (met (n - back)).is_found ≡ b
      → ((i : ℕ) → 0 < i → n - i ≤ k → last_back met n (suc k) i ≡ last_back met n (suc (suc k)) i)
      → last_back met n (suc (suc k)) back ≡ last_back met n (suc (suc (suc k))) back
  back_same_by k back some_bytes enough d true is ih = back_met (suc k) back is ∙ sym (back_met (suc (suc k)) back is)
  back_same_by k back some_bytes enough (no h) false is ih = back_whole (suc k) back is (omega arith) ∙ sym (back_whole (suc (suc k)) back is (omega arith))
  back_same_by k back some_bytes enough (yes h) false is ih =
      back_step (suc k) back is h ∙ ih (back * 4) (omega arith) (omega arith) ∙ sym (back_step (suc (suc k)) back is h)

  back_whole_by : (back : ℕ) → n ≤ back → (b : Bool) → (met (n - back)).is_found ≡ b → last_back met n (suc zero) back ≡ last_back met n (suc (suc zero)) back
  back_whole_by back past true is = back_met zero back is ∙ sym (back_met (suc zero) back is)
  back_whole_by back past false is = back_whole zero back is past ∙ sym (back_whole (suc zero) back is past)

  back_same : (k back : ℕ) → 0 < back → n - back ≤ k → last_back met n (suc k) back ≡ last_back met n (suc (suc k)) back
  back_same zero back some_bytes enough = back_whole_by back (omega arith) (met (n - back)).is_found refl
  back_same (suc k) back some_bytes enough = back_same_by k back some_bytes enough (dec_lt back n) (met (n - back)).is_found refl (back_same k)

  -- counting further changes nothing
  pub back_more_steps : (back : ℕ) → 0 < back → (k j : ℕ) → n - back ≤ k → k ≤ j → last_back met n (suc k) back ≡ last_back met n (suc j) back
  back_more_steps back some_bytes = steady (λ (k : ℕ). last_back met n (suc k) back) (n - back) (λ k enough. back_same k back some_bytes enough)

  -- four times as far, counted by as many steps
  pub further : (k back : ℕ) → 0 < back → n - back ≤ k → (met (n - back)).is_found ≡ false → back < n → last_back met n (suc k) back ≡ last_back met n (suc k) (back * 4)
  further zero back some_bytes enough is h = absurd (omega arith)
  further (suc k) back some_bytes enough is h = back_step (suc k) back is h ∙ back_same k (back * 4) (omega arith) (omega arith)

  -- the same in the code's numbers: the place p is `back` before the end
  module _ (k back p : ℕ) (p_is : p ≡ n - back) where
    place : (b : Bool) → (met p).is_found ≡ b → (met (n - back)).is_found ≡ b
    place b e = ap (λ (at : ℕ). (met at).is_found) (sym p_is) ∙ e

    pub met_there : (o end : ℕ) (t : ℤ) → met_at o end t ≡ met p → last_back met n (suc k) back ≡ Some (last_time met n end t)
    met_there o end t e =
        back_met k back (place true (sym (ap (λ (m : MetTold). m.is_found) e)))
        ∙ ap (λ (m : MetTold). Some (last_time met n m.end m.millis)) (sym (e ∙ ap met p_is))

    pub none_there : (met p).is_found ≡ false → n ≤ back → last_back met n (suc k) back ≡ None
    none_there e past = back_whole k back (place false e) past

    pub further_there : 0 < back → n - back ≤ k → (met p).is_found ≡ false → back < n → last_back met n (suc k) back ≡ last_back met n (suc k) (back * 4)
    further_there some_bytes enough e h = further k back some_bytes enough (place false e) h

  -- what is met from the start is met in the end
  reaches_by :
      (k back : ℕ) → 0 < back → n - back ≤ k → (met 0).is_found ≡ true → Dec (back < n) → (b : Bool) → (met (n - back)).is_found ≡ b
      → ((i : ℕ) → 0 < i → n - i < n - back → (time : ℤ) × (last_back met n k i ≡ Some time)) → (time : ℤ) × (last_back met n (suc k) back ≡ Some time)
  reaches_by k back some_bytes enough first d true is ih = (last_time met n (met (n - back)).end (met (n - back)).millis, back_met k back is)
  reaches_by k back some_bytes enough first (yes h) false is ih =
      let rest : (time : ℤ) × (last_back met n k (back * 4) ≡ Some time) = ih (back * 4) (omega arith) (omega arith) in
      (rest.0, back_step k back is h ∙ rest.1)
  reaches_by k back some_bytes enough first (no h) false is ih =
      let start : n - back ≡ 0 = omega arith in
      absurd (false≢true (sym is ∙ ap (λ (at : ℕ). (met at).is_found) start ∙ first))

  pub reaches : (k back : ℕ) → 0 < back → n - back ≤ k → (met 0).is_found ≡ true → (time : ℤ) × (last_back met n (suc k) back ≡ Some time)
  reaches zero back some_bytes enough first = reaches_by zero back some_bytes enough first (dec_lt back n) (met (n - back)).is_found refl (λ i p l. absurd (omega arith))
  reaches (suc k) back some_bytes enough first =
      reaches_by (suc k) back some_bytes enough first (dec_lt back n) (met (n - back)).is_found refl (λ i p l. reaches k i p (omega arith) first)

  -- the time of a record after which none is met
  last_by :
      (k at f : ℕ) → (met f).is_found ≡ true → (met f).end ≡ at → (b : Bool) → (met at).is_found ≡ b
      → ((i g : ℕ) → (met g).is_found ≡ true → (met g).end ≡ i → n - i < n - at → LastMet met (last_time met k i (met g).millis))
      → LastMet met (last_time met (suc k) at (met f).millis)
  last_by k at f is e false none_there ih =
      rw (last_none (suc k) at (met f).millis none_there)
      (record { place = f; is_met = is; time = refl; none_after = ap (λ (i : ℕ). (met i).is_found) e ∙ none_there })
  last_by k at f is e true there ih =
      rw (last_step k at (met f).millis there)
      (ih (met at).end at there refl (omega (arith, ends_after met n ms at there, ms.inside at there)))

  last_of : (k at f : ℕ) → (met f).is_found ≡ true → (met f).end ≡ at → n - at ≤ k → LastMet met (last_time met k at (met f).millis)
  last_of zero at f is e enough =
      rw (last_past zero at (met f).millis (omega arith))
      (record { place = f; is_met = is; time = refl; none_after = nothing_past met n ms (met f).end (omega arith) })
  last_of (suc k) at f is e enough =
      last_by k at f is e (met at).is_found refl (λ i g there ends l. last_of k i g there ends (omega arith))

  back_by :
      (k back : ℕ) (z : ℤ) → Dec (back < n) → (b : Bool) → (met (n - back)).is_found ≡ b
      → ((i : ℕ) → last_back met n k i ≡ Some z → LastMet met z) → last_back met n (suc k) back ≡ Some z → LastMet met z
  back_by k back z d true is ih e =
      let same_option : Some (last_time met n (met (n - back)).end (met (n - back)).millis) ≡ Some z = sym (back_met k back is) ∙ e in
      let same_time : last_time met n (met (n - back)).end (met (n - back)).millis ≡ z = cc in
      rw same_time at (last_of n (met (n - back)).end (n - back) is refl (omega arith))
  back_by k back z (yes h) false is ih e = ih (back * 4) (sym (back_step k back is h) ∙ e)
  back_by k back z (no h) false is ih e =
      absurd (let never : ◌≡◌ {A = Option ℤ} None (Some z) = sym (back_whole k back is (omega arith)) ∙ e in let y : ◌≡◌ {A = ℕ} 0 1 = cc in omega arith)

  pub last_met : (k back : ℕ) (z : ℤ) → last_back met n k back ≡ Some z → LastMet met z
  unfolding last_back
  last_met zero back z e = absurd (let y : ◌≡◌ {A = ℕ} 0 1 = cc in omega arith)
  last_met (suc k) back z e = back_by k back z (dec_lt back n) (met (n - back)).is_found refl (λ i. last_met k i z) e
