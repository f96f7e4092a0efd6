-- Passing records from a place to a later one: what the seam check says there is what it says at the first, with the records between less. Over any
-- record test. Assumes nothing.
use Prim.Native.Nat.{ℕ, ◌+◌, ◌-◌, ◌≤◌}
use borrow.Author.Tests.{ltb-false}
use lib.Dec.{ltb, eqb}
use mathlib.Core.Bool.{Bool, true, false, cond, ◌||◌, true≢false, false≢true}
use Rattle.std.specs.Prelude.{Option, Some}
use mathlib.Core.Path.{◌≡◌, refl, sym, ap, ◌∙◌}
use native.Mathlib.Omega.{arith}
use Rattle.layout.specs.Layout.{header_size, trace_limit}
use Rattle.record.proofs.Steps.{Steps}
use Rattle.seam.specs.Seam.{reached, reach, SeamTold, unbroken_with, broken_at, seam_refused, seam_of, seam_from}
use Rattle.seam.proofs.Seams.{at_start, reach_on}
use Rattle.seam.proofs.SeamLaws.{is}

-- so many records less, of an answer of each kind
fewer_unbroken : (b : Bool) (p k r x : ℕ) → unbroken_with x ≡ cond b (unbroken_with (k + r)) (broken_at p (k + r)) → (k ≤ x) × (unbroken_with (x - k) ≡ cond b (unbroken_with r) (broken_at p r))
fewer_unbroken true p k r x q =
    let all : x ≡ k + r = ap (λ (t : SeamTold). t.records) q in
    let left : x - k ≡ r = omega arith in
    (omega arith, ap unbroken_with left)
fewer_unbroken false p k r x q = absurd (true≢false (ap (λ (t : SeamTold). t.is_unbroken) q))

fewer_broken : (b : Bool) (p k r stop x : ℕ) → broken_at stop x ≡ cond b (unbroken_with (k + r)) (broken_at p (k + r)) → (k ≤ x) × (broken_at stop (x - k) ≡ cond b (unbroken_with r) (broken_at p r))
fewer_broken true p k r stop x q = absurd (false≢true (ap (λ (t : SeamTold). t.is_unbroken) q))
fewer_broken false p k r stop x q =
    let all : x ≡ k + r = ap (λ (t : SeamTold). t.records) q in
    let left : x - k ≡ r = omega arith in
    let there : stop ≡ p = ap (λ (t : SeamTold). t.place) q in
    (omega arith, rw left (rw there))

module _ (next : ℕ → Option ℕ) (n : ℕ) where
  -- k valid records lead from a place to another
  pub record Passed (from at k : ℕ) : Type 0 where
    pub on : from ≤ at
    pub few : k ≤ at
    pub within : from ≤ n → at ≤ n
    pub run : reach next n from ≡ reached (reach next n at).place (k + (reach next n at).records)

  pub none_passed : (from : ℕ) → Passed from from 0
  none_passed from = record { on = omega arith; few = omega arith; within = λ h. h; run = at_start (reach next n from) }

  allowed_by : (at : ℕ) (t : SeamTold) (a b c : Bool) → ltb trace_limit n ≡ a → ltb at header_size ≡ b → ltb n at ≡ c
      → (cond a (seam_refused 1) (cond (b || c) (seam_refused 6) t)).refusal ≡ 0 → (n ≤ trace_limit) × (header_size ≤ at) × (at ≤ n)
  allowed_by at t true b c e f g q = absurd (omega arith)
  allowed_by at t false true c e f g q = absurd (omega arith)
  allowed_by at t false false true e f g q = absurd (omega arith)
  allowed_by at t false false false e f g q = (ltb-false trace_limit n e, ltb-false at header_size f, ltb-false n at g)

  -- a place that is not refused is inside a trace within the limit
  allowed : (at : ℕ) → (seam_from next n at).refusal ≡ 0 → (n ≤ trace_limit) × (header_size ≤ at) × (at ≤ n)
  unfolding seam_from
  allowed at q = allowed_by at (seam_of n (reach next n at)) (ltb trace_limit n) (ltb at header_size) (ltb n at) refl refl refl q

  module _ (steps : Steps next n) (from at k : ℕ) (p : Passed from at k) where
    pub one_more_lem : (m : ℕ) → next at ≡ Some m → Passed from m (k + 1)
    one_more_lem m e =
        let further = steps.grows at m e in
        record {
          on = omega (arith, p.on);
          few = omega (arith, p.few);
          within = λ h. steps.inside at m e;
          run = p.run ∙ rw (reach_on next n steps at m e) (ap (reached (reach next n m).place) (omega arith));
        }

    -- the check at both places, in terms of where the second one leads
    there : (n ≤ trace_limit) × (header_size ≤ from) × (from ≤ n) → seam_from next n at ≡ seam_of n (reach next n at)
    there h = is next n steps at h.0 (omega (arith, p.on, h.1)) (p.within h.2)

    first : (n ≤ trace_limit) × (header_size ≤ from) × (from ≤ n) → seam_from next n from ≡ seam_of n (reached (reach next n at).place (k + (reach next n at).records))
    first h = is next n steps from h.0 h.1 h.2 ∙ ap (seam_of n) p.run

    pub unbroken_later : (x : ℕ) → unbroken_with x ≡ seam_from next n from → (k ≤ x) × (unbroken_with (x - k) ≡ seam_from next n at)
    unbroken_later x q =
        let h = allowed from (sym (ap (λ (t : SeamTold). t.refusal) q)) in
        let r = reach next n at in
        let less = fewer_unbroken (eqb r.place n) r.place k r.records x (q ∙ first h) in
        (less.0, less.1 ∙ sym (there h))

    pub broken_later : (stop x : ℕ) → broken_at stop x ≡ seam_from next n from → (k ≤ x) × (broken_at stop (x - k) ≡ seam_from next n at)
    broken_later stop x q =
        let h = allowed from (sym (ap (λ (t : SeamTold). t.refusal) q)) in
        let r = reach next n at in
        let less = fewer_broken (eqb r.place n) r.place k r.records stop x (q ∙ first h) in
        (less.0, less.1 ∙ sym (there h))
