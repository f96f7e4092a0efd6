-- The ways out of the code, over a search: which facts make each answer the definition's. Assumes nothing.
use Prim.Native.Nat.{ℕ, ◌-◌, ◌≤◌, ◌<◌}
use borrow.Author.Tests.{lt-ltb, le-ltb}
use lib.Dec.{ltb}
use lib.IntN.{ℤ}
use native.Mathlib.Omega.{arith}
use lib.Signed.{lt_z}
use mathlib.Core.Bool.{Bool, true, false, cond}
use Rattle.std.specs.Prelude.{Option, None, Some, Ok, unwrap_or}
use mathlib.Core.Path.{◌≡◌, refl, sym, ap, ◌∙◌}
use Rattle.layout.specs.Layout.{header_size, trace_limit}
use Rattle.resync.specs.Search.{search_refusal}
use Rattle.resync.specs.declared.SearchError.{SearchError}
use Rattle.resync.specs.declared.SearchError.TheVariants as Why
use Rattle.span.specs.Met.{Trace, MetTold, meet, not_met, told_met, first_met, FirstTold, first_told, first_of, told_first}
use Rattle.span.specs.declared.Met.{Met}
use Rattle.seek.specs.Seek.{middle, next_lo, next_hi, narrowed, walked, seek_told, no_seek, seek_of}
use Rattle.seek.specs.Step.{told_state, no_state, start_told, start_at, StepTold, refused, more, scan, done, unless, step_of, step_at}
use Rattle.seek.specs.declared.SeekState.{SeekState}
use Rattle.seek.specs.declared.SeekState.TheVariants.{Searching, Scanning}

-- refusal 1 of a step, which is judged first
pub step_long : (t : Trace) → trace_limit < t.size → (target : ℤ) (state : SeekState) → refused 1 ≡ step_at t target state
unfolding step_at
step_long t long target state = simp (lt-ltb trace_limit t.size long)

pub step_fits : (t : Trace) → t.size ≤ trace_limit → (target : ℤ) (state : SeekState) → step_of (meet t) t.size target state ≡ step_at t target state
unfolding step_at
step_fits t fits target state = simp (le-ltb trace_limit t.size fits)

pub step_told :
    (t : Trace) → t.size ≤ trace_limit → (target : ℤ) (state : SeekState) (x : StepTold) → x ≡ step_of (meet t) t.size target state → x ≡ step_at t target state
step_told t fits target state x e = e ∙ step_fits t fits target state

-- where a stepped seek starts, by the first record's place
start_by :
    (t : Trace) (m : MetTold) (b : Bool) (o : Option ℕ) → told_first (Ok o) ≡ cond b (first_told 1 false 0) (first_told 0 m.is_found m.offset)
    → start_told 0 (told_state (Searching (unwrap_or o header_size) t.size))
    ≡ cond b (start_told 1 no_state) (start_told 0 (told_state (Searching (cond m.is_found m.offset header_size) t.size)))
start_by t m true (Some x) e = absurd (let z : ◌≡◌ {A = ℕ} 0 1 = ap (λ (f : FirstTold). f.refusal) e in omega arith)
start_by t m true None e = absurd (let z : ◌≡◌ {A = ℕ} 0 1 = ap (λ (f : FirstTold). f.refusal) e in omega arith)
start_by t m false (Some x) e = simp (sym (ap (λ (f : FirstTold). f.is_found) e), sym (ap (λ (f : FirstTold). f.offset) e))
start_by t m false None e = simp (sym (ap (λ (f : FirstTold). f.is_found) e))

pub start_long : (t : Trace) → first_told 1 false 0 ≡ first_of t → start_told 1 no_state ≡ start_at t
unfolding first_of start_at
start_long t e = long_by (ltb trace_limit t.size) e
  where
    long_by :
        (b : Bool) → first_told 1 false 0 ≡ cond b (first_told 1 false 0) (first_told 0 (first_met t).is_found (first_met t).offset)
        → start_told 1 no_state ≡ cond b (start_told 1 no_state) (start_told 0 (told_state (Searching (cond (first_met t).is_found (first_met t).offset header_size) t.size)))
    long_by true e = refl
    long_by false e = absurd (let z : ◌≡◌ {A = ℕ} 1 0 = ap (λ (f : FirstTold). f.refusal) e in omega arith)

pub start_is : (t : Trace) (o : Option ℕ) → told_first (Ok o) ≡ first_of t → start_told 0 (told_state (Searching (unwrap_or o header_size) t.size)) ≡ start_at t
unfolding first_of start_at
start_is t o e = start_by t (first_met t) (ltb trace_limit t.size) o e

-- the whole seek
module _ (t : Trace) (target : ℤ) where
  pub seek_long : trace_limit < t.size → no_seek ≡ seek_of t target
  unfolding seek_of
  seek_long long = simp (lt-ltb trace_limit t.size long)

  module _ (fits : t.size ≤ trace_limit) where
    pub seek_none : told_met (Ok None) ≡ first_met t → seek_told 0 None ≡ seek_of t target
    unfolding seek_of
    seek_none e = rw (← e) (simp (le-ltb trace_limit t.size fits))

    -- where the halvings leave lo, how many there are, and what the walk from there answers
    pub seek_done :
        (first : Met) → told_met (Ok (Some first)) ≡ first_met t
        → (lo h : ℕ) → lo ≡ (narrowed (meet t) target t.size first.offset t.size).lo → h ≡ (narrowed (meet t) target t.size first.offset t.size).halvings
        → (o : Option ℕ) → o ≡ walked (meet t) t.size target t.size lo → seek_told h o ≡ seek_of t target
    unfolding seek_of
    seek_done first e lo h lo_is h_is o o_is = rw (o_is, lo_is, h_is, ← e) (simp (le-ltb trace_limit t.size fits))

-- a refused search refuses the step
unless_refused : (e : SearchError) (step : StepTold) → refused (search_refusal e) ≡ unless (not_met (search_refusal e)) step
unless_refused Why.TraceTooLong step = refl
unless_refused Why.WindowTooLong step = refl

-- the steps
module _ (met : ℕ → MetTold) (n : ℕ) (target : ℤ) where
  module _ (lo hi : ℕ) where
    pub narrow_enough : hi - lo ≤ 65536 → scan (Scanning lo) ≡ step_of met n target (Searching lo hi)
    unfolding step_of
    narrow_enough h = simp (le-ltb 65536 (hi - lo) h)

    module _ (wide : 65536 < hi - lo) where
      pub halving_refused : (e : SearchError) → not_met (search_refusal e) ≡ met (middle lo hi) → refused (search_refusal e) ≡ step_of met n target (Searching lo hi)
      unfolding step_of
      halving_refused e is = simp (lt-ltb 65536 (hi - lo) wide, sym is) (unless_refused e _)

      pub halving_more :
          (o : Option Met) → told_met (Ok o) ≡ met (middle lo hi) → (a b : ℕ) → a ≡ next_lo target lo (told_met (Ok o)) → b ≡ next_hi target (middle lo hi) hi (told_met (Ok o))
          → more (Searching a b) ≡ step_of met n target (Searching lo hi)
      unfolding step_of
      halving_more (Some m) is a b a_is b_is = rw (a_is, b_is) (simp (lt-ltb 65536 (hi - lo) wide, sym is))
      halving_more None is a b a_is b_is = rw (a_is, b_is) (simp (lt-ltb 65536 (hi - lo) wide, sym is))

  module _ (at : ℕ) where
    pub scan_past : n ≤ at → done None ≡ step_of met n target (Scanning at)
    unfolding step_of
    scan_past h = simp (le-ltb at n h)

    module _ (inside : at < n) where
      pub scan_refused : (e : SearchError) → not_met (search_refusal e) ≡ met at → refused (search_refusal e) ≡ step_of met n target (Scanning at)
      unfolding step_of
      scan_refused e is = simp (lt-ltb at n inside, sym is) (unless_refused e _)

      pub scan_none : told_met (Ok None) ≡ met at → done None ≡ step_of met n target (Scanning at)
      unfolding step_of
      scan_none is = simp (lt-ltb at n inside, sym is)

      pub scan_met :
          (m : Met) → told_met (Ok (Some m)) ≡ met at → (b : Bool) → b ≡ lt_z (told_met (Ok (Some m))).millis target
          → cond b (more (Scanning m.next_offset)) (done (Some m.offset)) ≡ step_of met n target (Scanning at)
      unfolding step_of
      scan_met m is b b_is = simp (lt-ltb at n inside, sym is, b_is)
