-- The two seeks agree, over any trace within the limit whose records go on and end inside it: where there is a first record, the stepped seek, driven from its start, ends with the whole seek's answer after as many halvings. Assumes nothing.
use Prim.Native.Nat.{ℕ, zero, suc, ◌-◌, ◌≤◌, ◌<◌}
use borrow.Author.Tests.{lt-ltb, le-ltb}
use lib.IntN.{ℤ}
use lib.Signed.{lt_z}
use mathlib.Core.Bool.{Bool, true, false}
use Rattle.std.specs.Prelude.{Option, None, Some}
use mathlib.Core.Path.{◌≡◌, refl, sym, ap, subst, ◌∙◌}
use native.Mathlib.Decide.{dec_lt}
use native.Mathlib.Omega.{arith}
use Rattle.layout.specs.Layout.{trace_limit}
use Rattle.record.proofs.Steps.{Steps}
use Rattle.seek.proofs.Exits.{step_fits}
use Rattle.seek.proofs.Halvings as Halvings
use Rattle.span.proofs.Meets.{Meets, meets, not_refused, ends_after}
use Rattle.seek.proofs.Walks as Walks
use Rattle.span.specs.Met.{Trace, meet, first_met}
use Rattle.seek.specs.Seek.{middle, next_lo, next_hi, Bracket, narrowed, walked, seek_told, bracket, seek_of}
use Rattle.seek.specs.Step.{told_state, start_told, start_at, more, scan, done, step_of, step_at, Driven, ends, goes_on, scans}
use Rattle.seek.specs.declared.SeekState.{SeekState}
use Rattle.seek.specs.declared.SeekState.TheVariants.{Searching, Scanning}

-- what the two seeks answer: where the stepped one starts, how many halvings the whole one makes, and the record that both find, or none
pub record Agree (t : Trace) (target : ℤ) : Type 0 where
  pub state : SeekState
  pub halvings : ℕ
  pub found : Option ℕ
  pub starts : start_at t ≡ start_told 0 (told_state state)
  pub whole : seek_of t target ≡ seek_told halvings found
  pub stepped : Driven t target state found halvings

module _ (t : Trace) (steps : Steps t.next t.size) (fits : t.size ≤ trace_limit) (target : ℤ) where
  abbrev n : ℕ
  n = t.size

  ms : Meets (meet t) t.size
  ms = meets t steps

  -- the answers of a step from inside the trace, none of which is a refusal
  step_narrow : (lo hi : ℕ) → hi - lo ≤ 65536 → step_at t target (Searching lo hi) ≡ scan (Scanning lo)
  unfolding step_of
  step_narrow lo hi h = sym (step_fits t fits target (Searching lo hi)) ∙ simp (le-ltb 65536 (hi - lo) h)

  step_halving :
      (lo hi : ℕ) → hi ≤ n → 65536 < hi - lo
      → step_at t target (Searching lo hi) ≡ more (Searching (next_lo target lo (meet t (middle lo hi))) (next_hi target (middle lo hi) hi (meet t (middle lo hi))))
  unfolding step_of
  step_halving lo hi within h =
      let inside : middle lo hi ≤ trace_limit = omega arith in
      sym (step_fits t fits target (Searching lo hi))
      ∙ simp (lt-ltb 65536 (hi - lo) h, not_refused t fits (middle lo hi) inside)

  step_past : (at : ℕ) → n ≤ at → step_at t target (Scanning at) ≡ done None
  unfolding step_of
  step_past at past = sym (step_fits t fits target (Scanning at)) ∙ simp (le-ltb at n past)

  module _ (at : ℕ) (h : at < n) where
    step_none : (meet t at).is_found ≡ false → step_at t target (Scanning at) ≡ done None
    unfolding step_of
    step_none is = sym (step_fits t fits target (Scanning at)) ∙ simp (lt-ltb at n h, not_refused t fits at (omega arith), is)

    step_passed : (meet t at).is_found ≡ true → lt_z (meet t at).millis target ≡ true → step_at t target (Scanning at) ≡ more (Scanning (meet t at).end)
    unfolding step_of
    step_passed is e = sym (step_fits t fits target (Scanning at)) ∙ simp (lt-ltb at n h, not_refused t fits at (omega arith), is, e)

    step_found : (meet t at).is_found ≡ true → lt_z (meet t at).millis target ≡ false → step_at t target (Scanning at) ≡ done (Some (meet t at).offset)
    unfolding step_of
    step_found is e = sym (step_fits t fits target (Scanning at)) ∙ simp (lt-ltb at n h, not_refused t fits at (omega arith), is, e)

  same_answer : (state : SeekState) {a b : Option ℕ} → b ≡ a → Driven t target state a 0 → Driven t target state b 0
  same_answer state e d = subst (λ (o : Option ℕ). Driven t target state o 0) (sym e) d

  abbrev walk : ℕ → ℕ → Option ℕ
  walk k at = walked (meet t) n target k at

  -- the walk, a step for each record
  scan_by :
      (k at : ℕ) → n - at ≤ suc k → Dec (at < n) → (b e : Bool) → (meet t at).is_found ≡ b → lt_z (meet t at).millis target ≡ e
      → ((i : ℕ) → n - i ≤ k → Driven t target (Scanning i) (walk k i) 0) → Driven t target (Scanning at) (walk (suc k) at) 0
  scan_by k at enough (no h) b e is q ih = ends (step_past at (omega arith) ∙ ap done (sym (Walks.at_end (meet t) n ms target (suc k) at (omega arith))))
  scan_by k at enough (yes h) false e is q ih = ends (step_none at h is ∙ ap done (sym (Walks.none_met_at (meet t) n ms target (suc k) at is)))
  scan_by k at enough (yes h) true false is q ih = ends (step_found at h is q ∙ ap done (sym (Walks.not_earlier (meet t) n ms target k at h is q)))
  scan_by k at enough (yes h) true true is q ih =
      same_answer (Scanning at) (Walks.step (meet t) n ms target k at h is q)
      (goes_on (step_passed at h is q) (ih (meet t at).end (omega (arith, ends_after (meet t) n ms at is))))

  pub scan_driven : (k at : ℕ) → n - at ≤ k → Driven t target (Scanning at) (walk k at) 0
  scan_driven zero at enough = ends (step_past at (omega arith) ∙ ap done (sym (Walks.at_end (meet t) n ms target zero at (omega arith))))
  scan_driven (suc k) at enough = scan_by k at enough (dec_lt at n) (meet t at).is_found (lt_z (meet t at).millis target) refl refl (scan_driven k)

  abbrev narrow : ℕ → ℕ → ℕ → Bracket
  narrow k lo hi = narrowed (meet t) target k lo hi

  -- the halvings, a step for each, and the walk from where they leave lo
  abbrev Searched : ℕ → ℕ → Bracket → Type 0
  Searched lo hi b = Driven t target (Searching lo hi) (walk n b.lo) b.halvings

  search_short : (k lo hi : ℕ) → hi - lo ≤ 65536 → Searched lo hi (narrow k lo hi)
  search_short k lo hi h =
      subst (Searched lo hi) (sym (Halvings.short (meet t) n ms target k lo hi h)) (scans (step_narrow lo hi h) (scan_driven n lo (omega arith)))

  search_by :
      (k lo hi : ℕ) → hi - lo ≤ suc k → hi ≤ n → Dec (65536 < hi - lo)
      → ((a b : ℕ) → b - a ≤ k → b ≤ n → Searched a b (narrow k a b)) → Searched lo hi (narrow (suc k) lo hi)
  search_by k lo hi enough within (no h) ih = search_short (suc k) lo hi (omega arith)
  search_by k lo hi enough within (yes h) ih =
      subst (Searched lo hi) (sym (Halvings.step (meet t) n ms target k lo hi h))
      (goes_on (step_halving lo hi within h)
      (ih (next_lo target lo (meet t (middle lo hi))) (next_hi target (middle lo hi) hi (meet t (middle lo hi)))
      (omega (arith, Halvings.halves (meet t) n ms target lo hi h)) (Halvings.stays_inside (meet t) n ms target lo hi within h)))

  pub search_driven : (k lo hi : ℕ) → hi - lo ≤ k → hi ≤ n → Searched lo hi (narrow k lo hi)
  search_driven zero lo hi enough within = search_short zero lo hi (omega arith)
  search_driven (suc k) lo hi enough within = search_by k lo hi enough within (dec_lt 65536 (hi - lo)) (search_driven k)

  -- 01: "Both seeks agree when a first record exists"
  pub seeks_agree : (first_met t).is_found ≡ true → Agree t target
  unfolding start_at seek_of
  seeks_agree is =
      record {
        state = Searching (first_met t).offset n;
        halvings = (bracket t target).halvings;
        found = walk n (bracket t target).lo;
        starts = simp (le-ltb trace_limit n fits, is);
        whole = simp (le-ltb trace_limit n fits, is);
        stepped = search_driven n (first_met t).offset n (omega arith) (omega arith);
      }
