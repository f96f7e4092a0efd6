-- The rows of steps are the page's rows: as many steps as a page has rows, from its start, give the rows of the records that it takes, each with its gap.
-- Assumes nothing.
use Prim.Native.Nat.{ℕ, zero, suc, ◌+◌, ◌-◌, ◌≤◌}
use lib.Dec.{eqb}
use lib.IntN.{ℤ}
use lib.ListN.{length, take, length-append}
use mathlib.Core.List.{List, [], ◌∷◌, ◌++◌, append_assoc}
use Rattle.std.specs.Prelude.{Option, None, Some}
use mathlib.Core.Path.{◌≡◌, refl, sym, ap, ◌∙◌}
use native.Mathlib.Omega.{arith}
use Rattle.choice.proofs.Choice.{either}
use Rattle.layout.specs.Layout.{trace_limit}
use Rattle.layout.specs.Fields.{kind_at, outgoing_at}
use Rattle.record.proofs.Steps.{Steps}
use Rattle.record.proofs.Valid.{record_steps}
use Rattle.record.specs.Record.{Limits, next_at}
use Rattle.rows.proofs.Walk.{one_more_lem}
use Rattle.rows.specs.Frames.{Placed, first_of}
use Rattle.rows.specs.Rows.{payload_at, frames_at, numbered, rows_at}
use Rattle.rows.specs.declared.Row.{Row}
use Rattle.seam.specs.Walk.{walk}
use Rattle.paging.specs.Page.{with_gap, gapped, Taken, taken}
use Rattle.steps.specs.Step.{Sound, gap_of, before_of, start_place, moved_to, StepTold, row_step, step_from, step_on, step_of, rows_of}
use Rattle.steps.specs.declared.Place.{Place}
use Rattle.paging.proofs.Pages.{taken_stops, taken_on, length_gapped}
use Rattle.steps.proofs.Stepping.{step_on_lem, one_within, sound_start, sound_next}
use Rattle.steps.proofs.Tests.{time_is}
use Rattle.seam.proofs.Walks.{stopped, goes_on_lem, by_records}

-- the first rows of some, with their gaps
front : (before : Option ℤ) (xs ys : List Row) → take (length xs) (gapped before (xs ++ ys)) ≡ gapped before xs
unfolding gapped
front before [] ys = refl
front before (x ∷ xs) ys = ap (λ (l : List Row). with_gap (gap_of before x.millis) x ∷ l) (front (Some x.millis) xs ys)

module _ (limits : Limits) (kinds s : List ℕ) (low : 630822816000000000 ≤ limits.low) (high : limits.high ≤ 662479488000000000) where
  abbrev next : ℕ → Option ℕ
  next = next_at limits kinds s

  steps : Steps next (length s)
  steps = record_steps limits kinds s

  -- the rows from a place in a record on
  abbrev none_left : ℕ → ℕ → ℕ → List Row
  none_left at index position = []

  abbrev left_at : ℕ → (ℕ → ℕ → List Row) → ℕ → ℕ → List Row
  left_at at rest index position = numbered s at position (frames_at kinds s at index) ++ rest 0 0

  left : ℕ → ℕ → ℕ → List Row
  left at = walk next none_left left_at (length s) at

  left_stops : (at index position : ℕ) → next at ≡ None → left at index position ≡ []
  unfolding left
  left_stops at index position e = ap (λ (f : ℕ → ℕ → List Row). f index position) (stopped next (length s) steps none_left left_at (length s) at e)

  left_on : (at m index position : ℕ) → next at ≡ Some m → left at index position ≡ numbered s at position (frames_at kinds s at index) ++ left m 0 0
  unfolding left
  left_on at m index position e = ap (λ (f : ℕ → ℕ → List Row). f index position) (goes_on_lem next (length s) steps none_left left_at at m e)

  -- from its first place on, all of a record's rows
  record_left : (at m : ℕ) → next at ≡ Some m → left at 0 0 ≡ rows_at kinds s at ++ left m 0 0
  unfolding rows_at
  record_left at m e = left_on at m 0 0 e

  rows_left : Place → List Row
  rows_left p = gapped (before_of p.previous) (left p.offset p.index p.position)

  -- a step gives the first of the rows that are left, and leaves the others
  Heads : List Row → StepTold → Type 0
  Heads [] r = Unit
  Heads (x ∷ xs) r = (r.row ≡ x) × (rows_left r.next ≡ xs)

  module _ (p : Place) where
    abbrev b : Option ℤ
    b = before_of p.previous

    abbrev Good : ℕ → Type 0
    Good at = (index position : ℕ) → Heads (gapped b (left at index position)) (step_from limits kinds s p at index position)

    good_stop : (at : ℕ) → next at ≡ None → Good at
    unfolding Heads gapped
    good_stop at e index position = rw (left_stops at index position e) tt

    good_frames : (at m index position : ℕ) → next at ≡ Some m → Good m → (fs : List Placed) → frames_at kinds s at index ≡ fs
        → Heads (gapped b (numbered s at position fs ++ left m 0 0)) (row_step s (moved_to p at index position) (first_of fs) (step_from limits kinds s p m 0 0))
    unfolding Heads gapped numbered rows_left
    good_frames at m index position e ih [] is = ih 0 0
    good_frames at m index position e ih (f ∷ fs) is =
        let o = one_more_lem (kind_at kinds s at) (outgoing_at s at) (payload_at s at) index (record { frame = f.frame; next = f.next }) (ap first_of (sym is)) in
        let after : frames_at kinds s at f.next ≡ fs = let whole : f ∷ frames_at kinds s at f.next ≡ f ∷ fs = sym o.0 ∙ is in cc in
        (refl, rw (time_is limits kinds s low high at m e) (rw (left_on at m f.next (position + 1) e) (rw after)))

    good_step : (at m : ℕ) → next at ≡ Some m → Good m → Good at
    good_step at m e ih index position =
        rw (left_on at m index position e) (rw (step_on_lem limits kinds s p at m index position e) (good_frames at m index position e ih (frames_at kinds s at index) refl))

    good : (at : ℕ) → Good at
    good = by_records next (length s) steps Good good_stop good_step

  module _ (fits : length s ≤ trace_limit) where
    heads : (p : Place) → Sound p → Heads (rows_left p) (step_of limits kinds s p)
    unfolding rows_left step_on
    heads p sound = rw (sym (one_within limits kinds s p fits sound)) (good p p.offset p.index p.position)

    steps_by : (n : ℕ) (p : Place) → Sound p → ((q : Place) → Sound q → n ≤ length (rows_left q) → rows_of limits kinds s q n ≡ take n (rows_left q)) → (xs : List Row) → Heads xs (step_of limits kinds s p)
        → suc n ≤ length xs → (step_of limits kinds s p).row ∷ rows_of limits kinds s (step_of limits kinds s p).next n ≡ take (suc n) xs
    unfolding Heads
    steps_by n p sound ih [] h l = absurd (omega arith)
    steps_by n p sound ih (x ∷ xs) h l =
        rw h.0 (ap (λ (r : List Row). x ∷ r) (ih (step_of limits kinds s p).next (sound_next limits low high kinds s p sound) (rw h.1 (omega arith)) ∙ rw h.1))

    steps_rows : (n : ℕ) (p : Place) → Sound p → n ≤ length (rows_left p) → rows_of limits kinds s p n ≡ take n (rows_left p)
    unfolding rows_of
    steps_rows zero p sound h = refl
    steps_rows (suc n) p sound h = steps_by n p sound (steps_rows n) (rows_left p) (heads p sound) h

    abbrev takes : ℕ → ℕ → Taken
    takes at count = taken next (rows_at kinds s) (length s) at count

    -- what a page takes comes first among the rows of the records from its place on
    abbrev Before : ℕ → Type 0
    Before at = (count : ℕ) → (ys : List Row) × ((takes at count).rows ++ ys ≡ left at 0 0)

    before_stop : (at : ℕ) → next at ≡ None → Before at
    before_stop at e count = (left at 0 0, rw (taken_stops next (rows_at kinds s) (length s) steps at count e))

    before_step : (at m : ℕ) → next at ≡ Some m → Before m → Before at
    before_step at m e ih count =
        rw (taken_on next (rows_at kinds s) (length s) steps at m count e)
        (either (eqb count 0)
        (λ yes'. rw yes' (left at 0 0, refl))
        (λ no'.
        let rows = rows_at kinds s at in
        let later = ih (count - length rows) in
        rw no' (later.0, append_assoc rows (takes m (count - length rows)).rows later.0 ∙ ap (λ (l : List Row). rows ++ l) later.1 ∙ sym (record_left at m e))))

    before : (at : ℕ) → Before at
    before = by_records next (length s) steps Before before_stop before_step

    pub filled : (start count : ℕ) → rows_of limits kinds s (start_place start) (length (takes start count).rows) ≡ gapped None (takes start count).rows
    unfolding rows_left
    filled start count =
        let t = takes start count in
        let first = before start count in
        let is : rows_left (start_place start) ≡ gapped None (t.rows ++ first.0) = ap (gapped None) (sym first.1) in
        let many : length t.rows ≤ length (rows_left (start_place start)) = omega (arith, ap length is, length_gapped None (t.rows ++ first.0), length-append t.rows first.0) in
        steps_rows (length t.rows) (start_place start) (sound_start start) many ∙ rw is (front None t.rows first.0)
