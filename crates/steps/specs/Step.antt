-- The rows of the records from a place on, one at a time: how a table is filled. That these are the page's rows is `filled` of
-- paging/proofs/Filled.antt.
use Rattle.std.specs.Prelude.{ℕ, zero, suc, ◌+◌, ◌≤◌, ltb, ℤ, pos, nat_abs, ◌-ℤ◌, length, Bool, true, false, cond, ◌||◌, List, [], ◌∷◌, Option, None, Some, IfSome, is_some, Result, Ok, Err}
use Rattle.std.specs.Option.{unwrap_or}
use Rattle.ticks.specs.Ticks.{unix_millis}
use Rattle.layout.specs.Layout.{trace_limit}
use Rattle.layout.specs.Fields.{ticks_at}
use Rattle.record.specs.Record.{Limits, next_at}
use Rattle.pti.specs.declared.PtiFrame.{PtiFrame}
use Rattle.rows.specs.Frames.{first_of}
use Rattle.rows.specs.Rows.{row_of, frames_at}
use Rattle.rows.specs.declared.NextFrame.{NextFrame}
use Rattle.rows.specs.declared.Row.{Row}
use Rattle.seam.specs.Walk.{walk}
use Rattle.steps.specs.declared.Place.{Place}
use Rattle.steps.specs.declared.Step.{Step}
use Rattle.steps.specs.declared.StepError.{StepError}
use Rattle.steps.specs.declared.StepError.TheVariants.{TraceTooLong, NoSuchPlace}

-- the largest time that a valid record can have, in milliseconds
abbrev pub latest : ℕ
latest = 4112352000000

-- the places that a page comes to: a position is no further on than the index, and a time before is a record's
pub record Sound (p : Place) : Type 0 where
  pub counted : p.position ≤ p.index
  pub timed : IfSome p.previous (λ before. before ≤ latest)

-- the others
abbrev pub is_late : Option ℕ → Bool
is_late None = false
is_late (Some before) = ltb latest before

abbrev pub unsound : Place → Bool
unsound p = ltb p.index p.position || is_late p.previous

-- 01: "gap to the previous row's time (0 for the first)"
abbrev pub gap_of : Option ℤ → ℤ → ℤ
gap_of None time = pos 0
gap_of (Some before) time = time -ℤ before

-- the time before a place's next row, if there is one
abbrev pub before_of : Option ℕ → Option ℤ
before_of None = None
before_of (Some before) = Some (pos before)

abbrev pub blank_row : Row
blank_row =
    record {
      «record» = 0;
      position = 0;
      millis = pos 0;
      gap = pos 0;
      direction = 0;
      region = 0;
      channel = 0;
      speed = 0;
      rssi = pos 0;
      beam_count = 0;
      mpdu = 0;
      mpdu_len = 0;
    }

-- the same time before, at another place
abbrev pub moved_to : Place → ℕ → ℕ → ℕ → Place
moved_to p at index position = record { offset = at; index = index; position = position; previous = p.previous }

-- the first place of the record at an offset, with no time before
abbrev pub start_place : ℕ → Place
start_place at = record { offset = at; index = 0; position = 0; previous = None }

-- what a step answers: the refusal's number or 0, whether pages come to its place, whether a row comes, the row, and the place after it
pub record StepTold : Type 0 where
  pub refusal : ℕ
  pub is_place : Bool
  pub is_row : Bool
  pub row : Row
  pub next : Place

-- a frame as a row, with the time of its record, and the place after it
abbrev pub row_step_at : Place → ℤ → ℕ → PtiFrame → ℕ → StepTold
row_step_at p time millis f next =
    record {
      refusal = 0;
      is_place = true;
      is_row = true;
      row = row_of p.offset p.position time (gap_of (before_of p.previous) time) f;
      next = record { offset = p.offset; index = next; position = p.position + 1; previous = Some millis };
    }

-- the record's next frame, or what comes after the record
abbrev pub row_step : List ℕ → Place → Option NextFrame → StepTold → StepTold
row_step s p (Some f) rest =
    row_step_at p (unix_millis (ticks_at s p.offset)) (nat_abs (unix_millis (ticks_at s p.offset))) f.frame f.next
row_step s p None rest = rest

-- no row comes any more: the place reached has no valid record
abbrev pub no_step : Place → StepTold
no_step p = record { refusal = 0; is_place = true; is_row = false; row = blank_row; next = p }

-- no step at all, with the refusal's number or 0: the place is as given, as 01 has it of the sequential reader's, and all else is 0
abbrev pub nowhere : ℕ → Place → StepTold
nowhere refusal p = record { refusal = refusal; is_place = false; is_row = false; row = blank_row; next = p }

-- refusal 1: "the trace is over 1,073,741,824 bytes (all calls on a trace)"
abbrev pub unless_long : List ℕ → Place → StepTold → StepTold
unless_long s p t = cond (ltb trace_limit (length s)) (nowhere 1 p) t

-- from the record at a place on, at an index of its payload and a position; p says the time before
abbrev pub step_at : List ℕ → List ℕ → Place → ℕ → (ℕ → ℕ → StepTold) → ℕ → ℕ → StepTold
step_at kinds s p at rest index position =
    row_step s (moved_to p at index position) (first_of (frames_at kinds s at index)) (rest 0 0)

abbrev pub step_end : Place → ℕ → ℕ → ℕ → StepTold
step_end p at index position = no_step (moved_to p at index position)

unfoldable pub step_from : Limits → List ℕ → List ℕ → Place → ℕ → ℕ → ℕ → StepTold
step_from limits kinds s p at = walk (next_at limits kinds s) (step_end p) (step_at kinds s p) (length s) at

unfoldable pub step_on : Limits → List ℕ → List ℕ → Place → StepTold
step_on limits kinds s p = step_from limits kinds s p p.offset p.index p.position

-- a place that no page comes to is told as none. That a page's first place is not one of these, nor the place after a row, is `sound_start` and
-- `sound_next` of proofs/Stepping.antt
unfoldable pub step_of : Limits → List ℕ → List ℕ → Place → StepTold
step_of limits kinds s p = unless_long s p (cond (unsound p) (nowhere 0 p) (step_on limits kinds s p))

-- the rows of n steps
unfoldable pub rows_of : Limits → List ℕ → List ℕ → Place → ℕ → List Row
rows_of limits kinds s p zero = []
rows_of limits kinds s p (suc n) = (step_of limits kinds s p).row ∷ rows_of limits kinds s (step_of limits kinds s p).next n

-- each answer in the paper's numbers, from the place given; "no such place" is the port's own and has none
abbrev pub refusal_of : StepError → ℕ
refusal_of TraceTooLong = 1
refusal_of NoSuchPlace = 0

abbrev pub told_step : Place → Result Step StepError → StepTold
told_step p (Ok step) =
    record {
      refusal = 0;
      is_place = true;
      is_row = is_some step.row;
      row = unwrap_or step.row blank_row;
      next = step.next;
    }
told_step p (Err e) = nowhere (refusal_of e) p
