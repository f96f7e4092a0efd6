-- What the seam check says: `unbroken k` exactly where k valid records follow one another from the place to the last byte, and `broken` exactly
-- with the first offset without a valid record and the number of records before it. Over any record test. Assumes nothing.
use Prim.Native.Nat.{ℕ, zero, suc, ◌≤◌, ◌<◌}
use borrow.Author.Tests.{eqb-true, eqb-false, le-ltb, eq-eqb, ne_eqb}
use lib.Dec.{eqb}
use mathlib.Core.Bool.{Bool, true, false, cond, true≢false, false≢true}
use lib.ListN.{length}
use mathlib.Core.List.{List}
use mathlib.Core.Logic.{◌↔◌}
use Rattle.std.specs.Prelude.{Option, None, Some}
use mathlib.Core.Path.{◌≡◌, refl, sym, ap, ◌∙◌}
use native.Mathlib.Numerals.{add-one}
use native.Mathlib.Omega.{arith}
use Rattle.layout.specs.Layout.{header_size, trace_limit}
use Rattle.record.proofs.Steps.{Steps, past_end}
use Rattle.record.proofs.Valid.{record_steps}
use Rattle.record.specs.Record.{Limits, next_at}
use Rattle.resync.specs.Boundary.{onward, after}
use Rattle.seam.specs.Seam.{Unbroken, ends, more, Broken, Reached, reached, reach, SeamTold, unbroken_with, broken_at, seam_of, seam_from, seam_at}
use Rattle.seam.proofs.Walks.{by_records}
use Rattle.seam.proofs.Seams.{reach_stops, reach_on}

module _ (next : ℕ → Option ℕ) (n : ℕ) (steps : Steps next n) where
  -- an unbroken stretch is walked to the end
  pub reach_unbroken : {at k : ℕ} → Unbroken next n at k → reach next n at ≡ reached n k
  reach_unbroken ends = reach_stops next n steps n (past_end next n steps n (omega arith))
  reach_unbroken (more {at} {m} {k} e u) = reach_on next n steps at m e ∙ rw (reach_unbroken u) (rw (add-one k))

  unbroken_stop : (at : ℕ) → next at ≡ None → (reach next n at).place ≡ n → Unbroken next n at (reach next n at).records
  unbroken_stop at e p =
      let r = reach_stops next n steps at e in
      let here : at ≡ n = sym (ap (λ (x : Reached). x.place) r) ∙ p in
      rw r (rw here ends)

  unbroken_step : (at m : ℕ) → next at ≡ Some m → ((reach next n m).place ≡ n → Unbroken next n m (reach next n m).records)
      → (reach next n at).place ≡ n → Unbroken next n at (reach next n at).records
  unbroken_step at m e ih p =
      let r = reach_on next n steps at m e in
      let there : (reach next n m).place ≡ n = sym (ap (λ (x : Reached). x.place) r) ∙ p in
      rw r (rw (add-one (reach next n m).records) (more e (ih there)))

  -- and back
  pub unbroken_reach : (at : ℕ) → (reach next n at).place ≡ n → Unbroken next n at (reach next n at).records
  unbroken_reach = by_records next n steps (λ (at : ℕ). (reach next n at).place ≡ n → Unbroken next n at (reach next n at).records) unbroken_stop unbroken_step

  -- one record more in front
  front : (at m : ℕ) → next at ≡ Some m → (k : ℕ) → after next k m ≡ after next (suc k) at
  front at m e zero = sym e
  front at m e (suc k) = ap (λ (o : Option ℕ). onward o next) (front at m e k)

  no_front : (at : ℕ) → next at ≡ None → (k : ℕ) → after next (suc k) at ≡ None
  no_front at e zero = e
  no_front at e (suc k) = rw (no_front at e k)

  -- the walk ends where no valid record is, after so many
  pub record Ran (at : ℕ) : Type 0 where
    pub run : after next (reach next n at).records at ≡ Some (reach next n at).place
    pub stops : next (reach next n at).place ≡ None
    pub inside : at ≤ n → (reach next n at).place ≤ n

  ran_stop : (at : ℕ) → next at ≡ None → Ran at
  ran_stop at e = record { run = rw (reach_stops next n steps at e); stops = rw (reach_stops next n steps at e) e; inside = λ h. rw (reach_stops next n steps at e) h }

  ran_step : (at m : ℕ) → next at ≡ Some m → Ran m → Ran at
  ran_step at m e r =
      record {
        run = rw (reach_on next n steps at m e) (rw (add-one (reach next n m).records) (sym (front at m e (reach next n m).records) ∙ r.run));
        stops = rw (reach_on next n steps at m e) r.stops;
        inside = λ h. rw (reach_on next n steps at m e) (r.inside (steps.inside at m e));
      }

  ran : (at : ℕ) → Ran at
  ran = by_records next n steps Ran ran_stop ran_step

  broken_reach_by : (k at place : ℕ) → (o : Option ℕ) → next at ≡ o → after next (suc k) at ≡ Some place → next place ≡ None
      → ((m : ℕ) → after next k m ≡ Some place → reach next n m ≡ reached place k) → reach next n at ≡ reached place (suc k)
  broken_reach_by k at place None e run stops ih = absurd (let none_there = no_front at e k in let z : ◌≡◌ {A = ℕ} 0 1 = cc in omega arith)
  broken_reach_by k at place (Some m) e run stops ih = reach_on next n steps at m e ∙ rw (ih m (front at m e k ∙ run)) (rw (add-one k))

  broken_reach : (k at place : ℕ) → after next k at ≡ Some place → next place ≡ None → reach next n at ≡ reached place k
  broken_reach zero at place run stops = let here : at ≡ place = cc in rw here (reach_stops next n steps place stops)
  broken_reach (suc k) at place run stops = broken_reach_by k at place (next at) refl run stops (λ m r. broken_reach k m place r stops)

  module _ (at : ℕ) (fits : n ≤ trace_limit) (low : header_size ≤ at) (high : at ≤ n) where
    pub is : seam_from next n at ≡ seam_of n (reach next n at)
    unfolding seam_from
    is = simp (le-ltb trace_limit n fits, le-ltb at header_size low, le-ltb n at high)

    unbroken_told : (r : Reached) (b : Bool) → eqb r.place n ≡ b → (k : ℕ) → cond b (unbroken_with r.records) (broken_at r.place r.records) ≡ unbroken_with k → (r.place ≡ n) × (r.records ≡ k)
    unbroken_told r true e k q = (eqb-true r.place n e, ap (λ (x : SeamTold). x.records) q)
    unbroken_told r false e k q = absurd (false≢true (ap (λ (x : SeamTold). x.is_unbroken) q))

    pub unbroken_to : (k : ℕ) → seam_from next n at ≡ unbroken_with k → Unbroken next n at k
    unbroken_to k q =
        let r = reach next n at in
        let s = unbroken_told r (eqb r.place n) refl k (sym is ∙ q) in
        rw s.1 at (unbroken_reach at s.0)

    pub unbroken_from : (k : ℕ) → Unbroken next n at k → seam_from next n at ≡ unbroken_with k
    unbroken_from k u = is ∙ rw (reach_unbroken u) (simp (eq-eqb n n refl))

    -- the check says unbroken with k exactly where k valid records follow one another from the place to the last byte
    pub says_unbroken : (k : ℕ) → (seam_from next n at ≡ unbroken_with k) ↔ Unbroken next n at k
    says_unbroken k = (unbroken_to k, unbroken_from k)

    broken_told : (r : Reached) (b : Bool) → eqb r.place n ≡ b → (place k : ℕ) → cond b (unbroken_with r.records) (broken_at r.place r.records) ≡ broken_at place k
        → (r.place ≡ n → ⊥) × (r.place ≡ place) × (r.records ≡ k)
    broken_told r true e place k q = absurd (true≢false (ap (λ (x : SeamTold). x.is_unbroken) q))
    broken_told r false e place k q = (eqb-false r.place n e, ap (λ (x : SeamTold). x.place) q, ap (λ (x : SeamTold). x.records) q)

    pub broken_to : (place k : ℕ) → seam_from next n at ≡ broken_at place k → Broken next n at place k
    broken_to place k q =
        let r = reach next n at in
        let s = broken_told r (eqb r.place n) refl place k (sym is ∙ q) in
        let w = ran at in
        let far : r.place < n = omega (arith, w.inside high, s.0) in
        rw (sym s.1) (rw (sym s.2) (record { run = w.run; stops = w.stops; before_end = far }))

    pub broken_from : (place k : ℕ) → Broken next n at place k → seam_from next n at ≡ broken_at place k
    broken_from place k b = is ∙ rw (broken_reach k at place b.run b.stops) (simp (ne_eqb place n (λ e. omega (arith, b.before_end))))

    -- and broken with a place and k exactly where k valid records lead there, and none stands there
    pub says_broken : (place k : ℕ) → (seam_from next n at ≡ broken_at place k) ↔ Broken next n at place k
    says_broken place k = (broken_to place k, broken_from place k)

-- the check's answer is one of the two
unbroken_by : (n : ℕ) (r : Reached) (b : Bool) → (cond b (unbroken_with r.records) (broken_at r.place r.records)).is_unbroken ≡ true
    → cond b (unbroken_with r.records) (broken_at r.place r.records) ≡ unbroken_with r.records
unbroken_by n r true e = refl
unbroken_by n r false e = absurd (false≢true e)

pub stretch : (next : ℕ → Option ℕ) (n : ℕ) → Steps next n → (at : ℕ) → n ≤ trace_limit → header_size ≤ at → at ≤ n → (seam_from next n at).is_unbroken ≡ true
    → Unbroken next n at (reach next n at).records
stretch next n steps at fits low high e =
    let r = reach next n at in
    let told = is next n steps at fits low high in
    unbroken_to next n steps at fits low high r.records (told ∙ unbroken_by n r (eqb r.place n) (sym (ap (λ (x : SeamTold). x.is_unbroken) told) ∙ e))

-- the same of the records of a trace, for any tick limits
module _ (limits : Limits) (kinds s : List ℕ) (at : ℕ) (fits : length s ≤ trace_limit) (low : header_size ≤ at) (high : at ≤ length s) where
  pub seam_unbroken : (k : ℕ) → (seam_at limits kinds s at ≡ unbroken_with k) ↔ Unbroken (next_at limits kinds s) (length s) at k
  seam_unbroken = says_unbroken (next_at limits kinds s) (length s) (record_steps limits kinds s) at fits low high

  pub seam_broken : (place k : ℕ) → (seam_at limits kinds s at ≡ broken_at place k) ↔ Broken (next_at limits kinds s) (length s) at place k
  seam_broken = says_broken (next_at limits kinds s) (length s) (record_steps limits kinds s) at fits low high
