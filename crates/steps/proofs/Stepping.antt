-- The next row from a place on: what the code has at each way out and after each record. Assumes nothing.
use Prim.Native.Nat.{ℕ, ◌+◌, ◌≤◌, ◌<◌}
use borrow.Author.Tests.{ltb-false, lt-ltb, le-ltb}
use lib.Dec.{ltb}
use lib.IntN.{pos, nat_abs}
use lib.ListN.{length}
use mathlib.Core.Bool.{Bool, true, false, ◌||◌, true≢false, false≢true}
use mathlib.Core.List.{List}
use Rattle.std.specs.Prelude.{Option, None, Some, IfSome, Result, Ok, Err, IsOk, IsErr, IsErrAnd}
use mathlib.Core.Path.{◌≡◌, refl, sym, ap, ◌∙◌}
use native.Mathlib.Omega.{arith}
use Rattle.choice.proofs.Choice.{by_choice}
use Rattle.ticks.specs.Ticks.{unix_millis}
use Rattle.layout.specs.Fields.{ticks_at, kind_at, outgoing_at}
use Rattle.layout.specs.Layout.{trace_limit}
use Rattle.record.proofs.Valid.{record_steps}
use Rattle.record.specs.Record.{Limits, next_at}
use Rattle.rows.specs.Frames.{first_of}
use Rattle.rows.proofs.Walk.{one_more_lem}
use Rattle.rows.specs.Rows.{frames_at, payload_at}
use Rattle.rows.specs.declared.NextFrame.{NextFrame}
use Rattle.steps.specs.Step.{latest, Sound, is_late, unsound, moved_to, start_place, StepTold, row_step_at, row_step, no_step, nowhere, step_at, step_end, step_from, step_on, step_of, refusal_of, told_step}
use Rattle.steps.specs.declared.Place.{Place}
use Rattle.steps.specs.declared.Step.{Step}
use Rattle.steps.specs.declared.StepError.{StepError}
use Rattle.seam.proofs.Walks.{stopped, goes_on_lem, by_records}
use Rattle.steps.proofs.Tests.{time_most}

module _ (limits : Limits) (kinds s : List ℕ) (p : Place) where
  pub step_stops : (at index position : ℕ) → next_at limits kinds s at ≡ None → step_from limits kinds s p at index position ≡ no_step (moved_to p at index position)
  unfolding step_from
  step_stops at index position e =
      ap (λ (f : ℕ → ℕ → StepTold). f index position) (stopped (next_at limits kinds s) (length s) (record_steps limits kinds s) (step_end p) (step_at kinds s p) (length s) at e)

  pub step_on_lem : (at m index position : ℕ) → next_at limits kinds s at ≡ Some m
      → step_from limits kinds s p at index position ≡ row_step s (moved_to p at index position) (first_of (frames_at kinds s at index)) (step_from limits kinds s p m 0 0)
  unfolding step_from
  step_on_lem at m index position e =
      ap (λ (f : ℕ → ℕ → StepTold). f index position) (goes_on_lem (next_at limits kinds s) (length s) (record_steps limits kinds s) (step_end p) (step_at kinds s p) at m e)

-- ---- the test of a place
either_false : (a b : Bool) → (a || b) ≡ false → (a ≡ false) × (b ≡ false)
either_false true b e = absurd (true≢false e)
either_false false b e = (refl, e)

in_time : (o : Option ℕ) → is_late o ≡ false → IfSome o (λ before. before ≤ latest)
in_time None e = tt
in_time (Some before) e = ltb-false latest before e

not_late : (o : Option ℕ) → IfSome o (λ before. before ≤ latest) → is_late o ≡ false
not_late None h = refl
not_late (Some before) h = le-ltb latest before h

pub sound_of : (p : Place) → unsound p ≡ false → Sound p
sound_of p e =
    let both = either_false (ltb p.index p.position) (is_late p.previous) e in
    record { counted = ltb-false p.index p.position both.0; timed = in_time p.previous both.1 }

pub is_sound : (p : Place) → Sound p → unsound p ≡ false
is_sound p s = simp (le-ltb p.index p.position s.counted, not_late p.previous s.timed)

module _ (limits : Limits) (kinds s : List ℕ) (p : Place) where
  -- a trace over the limit is refused
  pub too_long : trace_limit < length s → (r : Result Step StepError) → IsErr r × IsErrAnd r (λ e. e ≡ StepError.TraceTooLong) → told_step p r ≡ step_of limits kinds s p
  unfolding step_of
  too_long over (Ok r) is = absurd (false≢true is.0)
  too_long over (Err e) is = ap (λ (x : StepError). nowhere (refusal_of x) p) is.1 ∙ simp (lt-ltb trace_limit (length s) over)

  module _ (fits : length s ≤ trace_limit) where
    -- in one that is not, a place that no page comes to is told as none
    pub no_place : unsound p ≡ true → nowhere 0 p ≡ step_of limits kinds s p
    unfolding step_of
    no_place e = simp (le-ltb trace_limit (length s) fits, e)

    -- and a page's places
    pub one_within : Sound p → step_on limits kinds s p ≡ step_of limits kinds s p
    unfolding step_of
    one_within sound = simp (le-ltb trace_limit (length s) fits, is_sound p sound)

-- the place reached, q, gives the same step as the place given, p
module _ (limits : Limits) (kinds s : List ℕ) (p q : Place) (inv : step_on limits kinds s q ≡ step_on limits kinds s p) where
  abbrev at : ℕ
  at = q.offset

  abbrev next : ℕ → Option ℕ
  next = next_at limits kinds s

  module _ (fits : length s ≤ trace_limit) (sound : Sound p) where
    pub no_row : next at ≡ None → no_step q ≡ step_of limits kinds s p
    unfolding step_on
    no_row e = sym (step_stops limits kinds s q at q.index q.position e) ∙ inv ∙ one_within limits kinds s p fits sound

    pub a_row : (m millis : ℕ) (f : NextFrame) → next at ≡ Some m → pos millis ≡ unix_millis (ticks_at s at) → Some f ≡ first_of (frames_at kinds s at q.index)
        → row_step_at q (pos millis) millis f.frame f.next ≡ step_of limits kinds s p
    unfolding step_on
    a_row m millis f e t n =
        let time : millis ≡ nat_abs (unix_millis (ticks_at s at)) = ap nat_abs t in
        let here : step_on limits kinds s p ≡ row_step_at q (unix_millis (ticks_at s at)) (nat_abs (unix_millis (ticks_at s at))) f.frame f.next =
        sym inv ∙ step_on_lem limits kinds s q at m q.index q.position e ∙ rw (sym n) in
        (λ j. row_step_at q (t j) (time j) f.frame f.next) ∙ sym here ∙ one_within limits kinds s p fits sound

  pub onward : (m : ℕ) → next at ≡ Some m → None ≡ first_of (frames_at kinds s at q.index) → step_on limits kinds s (moved_to q m 0 0) ≡ step_on limits kinds s p
  unfolding step_on step_from
  onward m e n = sym (step_on_lem limits kinds s q at m q.index q.position e ∙ rw (sym n)) ∙ inv

-- what the code has to show where it makes a row
pub row_asked : (kinds s : List ℕ) (p : Place) → Sound p → (f : NextFrame) → Some f ≡ first_of (frames_at kinds s p.offset p.index)
    → p.offset + 14 + length (payload_at s p.offset) ≤ length s → length s < 18446744073709551616 → (p.offset + 13 + f.frame.mpdu < 18446744073709551616) × (p.position < f.next)
row_asked kinds s p sound f n inside fits =
    let o = one_more_lem (kind_at kinds s p.offset) (outgoing_at s p.offset) (payload_at s p.offset) p.index f n in
    (omega (arith, o.3), omega (arith, o.1, sound.counted))

-- the first place of the next record
pub sound_moved : (p : Place) → Sound p → (m : ℕ) → Sound (moved_to p m 0 0)
sound_moved p sound m = record { counted = omega arith; timed = sound.timed }

-- a page's first place is one that a page comes to
pub sound_start : (start : ℕ) → Sound (start_place start)
sound_start start = record { counted = omega arith; timed = tt }

-- and so is the place after a row; and from such a place there is always a step
module _ (limits : Limits) (low : 630822816000000000 ≤ limits.low) (high : limits.high ≤ 662479488000000000) (kinds s : List ℕ) (p : Place) (sound : Sound p) where
  abbrev Goes : StepTold → Type 0
  Goes t = Sound t.next × (t.is_place ≡ true)

  abbrev Left : ℕ → Type 0
  Left at = (index position : ℕ) → position ≤ index → Goes (step_from limits kinds s p at index position)

  left_stop : (at : ℕ) → next_at limits kinds s at ≡ None → Left at
  left_stop at e index position h = rw (step_stops limits kinds s p at index position e) (record { counted = h; timed = sound.timed }, refl)

  left_by : (at m index position : ℕ) → next_at limits kinds s at ≡ Some m → position ≤ index → Left m → (n : Option NextFrame) → n ≡ first_of (frames_at kinds s at index)
      → Goes (row_step s (moved_to p at index position) n (step_from limits kinds s p m 0 0))
  left_by at m index position e h ih None n = ih 0 0 (omega arith)
  left_by at m index position e h ih (Some f) n =
      let o = one_more_lem (kind_at kinds s at) (outgoing_at s at) (payload_at s at) index f n in
      (record { counted = omega (arith, o.1); timed = time_most limits kinds s low high at m (e) }, refl)

  left_step : (at m : ℕ) → next_at limits kinds s at ≡ Some m → Left m → Left at
  left_step at m e ih index position h =
      rw (step_on_lem limits kinds s p at m index position e) (left_by at m index position e h ih (first_of (frames_at kinds s at index)) refl)

  on_goes : Goes (step_on limits kinds s p)
  unfolding step_on
  on_goes = by_records (next_at limits kinds s) (length s) (record_steps limits kinds s) Left left_stop left_step p.offset p.index p.position sound.counted

  pub sound_next : Sound (step_of limits kinds s p).next
  unfolding step_of
  sound_next = by_choice (λ (t : StepTold). Sound t.next) (ltb trace_limit (length s)) (λ _. sound) (λ _. rw (is_sound p sound) on_goes.0)

  pub is_step : length s ≤ trace_limit → (r : Result Step StepError) → told_step p r ≡ step_of limits kinds s p → IsOk r
  is_step fits (Ok r) e = refl
  is_step fits (Err r) e = ap (λ (t : StepTold). t.is_place) (e ∙ sym (one_within limits kinds s p fits sound)) ∙ on_goes.1
