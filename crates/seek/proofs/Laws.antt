-- What an answer says, over any trace whose records go on and end inside it: at most 14 halvings; and a found place is a boundary, and its record is not earlier than the target. Assumes nothing.
use Prim.Native.Nat.{ℕ, ◌≤◌, ◌<◌}
use borrow.Author.Tests.{le-ltb, ltb-false}
use lib.Dec.{ltb, eqb}
use lib.IntN.{ℤ}
use lib.ListN.{length}
use lib.Signed.{lt_z}
use mathlib.Core.Bool.{Bool, true, false, cond, false≢true}
use mathlib.Core.List.{List}
use Rattle.std.specs.Prelude.{Option, None, Some}
use mathlib.Core.Path.{◌≡◌, refl, sym, ap, ◌∙◌}
use native.Mathlib.Omega.{arith}
use Rattle.layout.specs.Layout.{header_size, trace_limit}
use Rattle.record.proofs.Steps.{Steps}
use Rattle.record.proofs.Valid.{record_steps}
use Rattle.resync.specs.Boundary.{boundary}
use Rattle.record.specs.Record.{Limits}
use Rattle.seek.proofs.Agree.{Agree, seeks_agree}
use Rattle.seek.proofs.Exits.{step_fits, narrow_enough, scan_past}
use Rattle.seek.proofs.Halvings.{at_most_14}
use Rattle.span.proofs.Meets.{MetAt, met_at_lem, meets}
use Rattle.seek.proofs.Walks.{Answer, found_met}
use Rattle.span.specs.Met.{Trace, trace_of, MetTold, meet, first_met}
use Rattle.seek.specs.Seek.{wide, middle, earlier, next_lo, next_hi, walked, SeekTold, seek_told, no_seek, bracket, seek_of}
use Rattle.seek.specs.Step.{told_state, start_told, start_at, StepTold, refused, more, scan, done, step_of, step_at}
use Rattle.seek.specs.declared.SeekState.{SeekState}
use Rattle.seek.specs.declared.SeekState.TheVariants.{Searching, Scanning}

-- a boundary whose record is not earlier than the target
abbrev pub NotEarlier : Trace → ℤ → ℕ → Type 0
NotEarlier t target r = (boundary t.next t.size r ≡ true) × (lt_z (t.millis r) target ≡ false)

module _ (t : Trace) (target : ℤ) where
  -- of a record that a search met
  met_right : (from r : ℕ) → (meet t from).is_found ≡ true → (meet t from).offset ≡ r → lt_z (meet t from).millis target ≡ false → NotEarlier t target r
  met_right from r is place late =
      let m : MetAt t from (meet t from) = met_at_lem t from is in (
        ap (boundary t.next t.size) (sym place) ∙ m.is_boundary,
        ap (λ (p : ℕ). lt_z (t.millis p) target) (sym place) ∙ ap (λ (z : ℤ). lt_z z target) (sym m.time) ∙ late,
      )

  -- a step that is done with a record
  scan_by :
      (a b d : Bool) (m : MetTold) (c : Bool) (r : ℕ)
      → cond a (cond b (cond c (cond d (more (Scanning m.end)) (done (Some m.offset))) (done None)) (refused m.refusal)) (done None) ≡ done (Some r)
      → (c ≡ true) × ((d ≡ false) × (m.offset ≡ r))
  scan_by false b d m c r e = absurd (false≢true (ap (λ (x : StepTold). x.is_found) e))
  scan_by true false d m c r e = absurd (false≢true (ap (λ (x : StepTold). x.is_found) e))
  scan_by true true d m false r e = absurd (false≢true (ap (λ (x : StepTold). x.is_found) e))
  scan_by true true true m true r e = absurd (false≢true (ap (λ (x : StepTold). x.is_found) e))
  scan_by true true false m true r e = (refl, (refl, ap (λ (x : StepTold). x.offset) e))

  search_by : (a b : Bool) (k lo : ℕ) (next : SeekState) (r : ℕ) → cond a (cond b (more next) (refused k)) (scan (Scanning lo)) ≡ done (Some r) → NotEarlier t target r
  search_by false b k lo next r e = absurd (false≢true (ap (λ (x : StepTold). x.is_found) e))
  search_by true false k lo next r e = absurd (false≢true (ap (λ (x : StepTold). x.is_found) e))
  search_by true true k lo next r e = absurd (false≢true (ap (λ (x : StepTold). x.is_found) e))

  step_by : (a : Bool) (step : StepTold) (r : ℕ) → cond a (refused 1) step ≡ done (Some r) → step ≡ done (Some r)
  step_by true step r e = absurd (false≢true (ap (λ (x : StepTold). x.is_found) e))
  step_by false step r e = e

  of_step : (state : SeekState) (r : ℕ) → step_of (meet t) t.size target state ≡ done (Some r) → NotEarlier t target r
  unfolding step_of
  of_step (Searching lo hi) r e =
      let m : MetTold = meet t (middle lo hi) in
      search_by (wide lo hi) (eqb m.refusal 0) m.refusal lo (Searching (next_lo target lo m) (next_hi target (middle lo hi) hi m)) r e
  of_step (Scanning at) r e =
      let m : _ = scan_by (ltb at t.size) (eqb (meet t at).refusal 0) (earlier target (meet t at)) (meet t at) (meet t at).is_found r e in
      met_right at r m.0 m.1.1 (rw m.0 at m.1.0)

  pub step_right : (state : SeekState) (r : ℕ) → step_at t target state ≡ done (Some r) → NotEarlier t target r
  unfolding step_at
  step_right state r e = of_step state r (step_by (ltb trace_limit t.size) (step_of (meet t) t.size target state) r e)

-- what 01 says of the steps that make no search, and of a trace without a first record
module _ (t : Trace) (fits : t.size ≤ trace_limit) (target : ℤ) where
  -- "Crossed bounds (lo above hi) overflow in the Rust; the port scans from lo": of any numbers, and no refusal
  pub crossed_scan : (lo hi : ℕ) → hi < lo → step_at t target (Searching lo hi) ≡ scan (Scanning lo)
  crossed_scan lo hi h =
      sym (step_fits t fits target (Searching lo hi)) ∙ sym (narrow_enough (meet t) t.size target lo hi (omega arith))

  pub past_done : (at : ℕ) → t.size ≤ at → step_at t target (Scanning at) ≡ done None
  past_done at h = sym (step_fits t fits target (Scanning at)) ∙ sym (scan_past (meet t) t.size target at h)

  -- "Without one the whole seek gives none and 0 halvings; the stepped one starts lo at 2,048"
  pub without_first :
      (first_met t).is_found ≡ false → (seek_of t target ≡ seek_told 0 None) × (start_at t ≡ start_told 0 (told_state (Searching header_size t.size)))
  unfolding seek_of start_at
  without_first is = (simp (le-ltb trace_limit t.size fits, is), simp (le-ltb trace_limit t.size fits, is))

module _ (t : Trace) (steps : Steps t.next t.size) (target : ℤ) where
  -- the whole seek's answer, by whether the trace is too long and whether there is a first record
  abbrev picked : Bool → Bool → ℕ → Option ℕ → SeekTold
  picked long first halvings o = cond long no_seek (cond first (seek_told halvings o) (seek_told 0 None))

  few_by : (a b : Bool) (h : ℕ) (o : Option ℕ) → (a ≡ false → h ≤ 14) → (picked a b h o).halvings ≤ 14
  few_by true b h o few = omega arith
  few_by false true h None few = few refl
  few_by false true h (Some o) few = few refl
  few_by false false h o few = omega arith

  -- 01: "at most 14"; a trace over the limit makes none
  pub few_halvings : (seek_of t target).halvings ≤ 14
  unfolding seek_of
  few_halvings =
      few_by (ltb trace_limit t.size) (first_met t).is_found (bracket t target).halvings (walked (meet t) t.size target t.size (bracket t target).lo)
      (λ e. at_most_14 (meet t) t.size (meets t steps) target (ltb-false trace_limit t.size e) t.size (first_met t).offset t.size (omega arith))

  found_by :
      (a b : Bool) (h : ℕ) (o : Option ℕ) → walked (meet t) t.size target t.size (bracket t target).lo ≡ o
      → (picked a b h o).is_found ≡ true → NotEarlier t target (picked a b h o).offset
  found_by true b h o e is = absurd (false≢true is)
  found_by false false h o e is = absurd (false≢true is)
  found_by false true h None e is = absurd (false≢true is)
  found_by false true h (Some r) e is =
      let a : Answer (meet t) target r = found_met (meet t) t.size (meets t steps) target t.size (bracket t target).lo r e in
      met_right t target a.from r a.is_met a.place a.late

  -- what is found is a boundary, and its record is not earlier than the target. 01: "until one is not earlier than the target (the answer)"
  pub found_right : (seek_of t target).is_found ≡ true → NotEarlier t target (seek_of t target).offset
  unfolding seek_of
  found_right is =
      found_by (ltb trace_limit t.size) (first_met t).is_found (bracket t target).halvings (walked (meet t) t.size target t.size (bracket t target).lo) refl is

-- of the bytes of a trace, whatever the limits of a record's ticks
module _ (limits : Limits) (kinds s : List ℕ) (target : ℤ) where
  pub agree_in : length s ≤ trace_limit → (first_met (trace_of limits kinds s)).is_found ≡ true → Agree (trace_of limits kinds s) target
  agree_in fits is = seeks_agree (trace_of limits kinds s) (record_steps limits kinds s) fits target is

  pub few_in : (seek_of (trace_of limits kinds s) target).halvings ≤ 14
  few_in = few_halvings (trace_of limits kinds s) (record_steps limits kinds s) target

  pub found_in : (seek_of (trace_of limits kinds s) target).is_found ≡ true → NotEarlier (trace_of limits kinds s) target (seek_of (trace_of limits kinds s) target).offset
  found_in is = found_right (trace_of limits kinds s) (record_steps limits kinds s) target is
