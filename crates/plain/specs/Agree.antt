-- What it means that the seeks agree: of the definitions, and of the answers that a caller holds.
use Rattle.std.specs.Prelude.{ℕ, zero, suc, ◌≤◌, ℤ, ◌≡◌, Option, None, Some, Result, Ok, Err}
use Rattle.seek.specs.Seek.{SeekTold, seek_told, seek_of}
use Rattle.seek.specs.Step.{told_state, start_told, start_at, Driven}
use Rattle.layout.specs.declared.TraceTooLong.{TraceTooLong}
use Rattle.resync.specs.declared.SearchError.{SearchError}
use Rattle.seek.specs.declared.SeekState.{SeekState}
use Rattle.seek.specs.declared.SeekStep.{SeekStep}
use Rattle.seek.specs.declared.SeekStep.TheVariants as Step
use Rattle.seek.specs.declared.SeekTime.{SeekTime}
use Rattle.span.specs.Met.{Trace}
use Rattle.plain.specs.Plain.{PlainTold, plain_told, plain_of}

-- the whole seek's answer, its number of halvings left out
abbrev pub answer_of : SeekTold → PlainTold
answer_of a = record { refusal = a.refusal; is_found = a.is_found; offset = a.offset }

-- 02: "the whole seek and the stepped one equal to it": all three find the same record, or none. The stepped one, driven from its start,
-- comes to an end, and every way of driving it ends with that answer
pub record SameAsPlain (t : Trace) (target : ℤ) : Type 0 where
  pub found : Option ℕ
  pub plain : plain_of t target ≡ plain_told found
  pub halvings : ℕ
  pub whole : seek_of t target ≡ seek_told halvings found
  pub state : SeekState
  pub starts : start_at t ≡ start_told 0 (told_state state)
  pub stepped : Driven t target state found halvings
  pub always : (other : Option ℕ) (turns : ℕ) → Driven t target state other turns → other ≡ found

-- the stepped seek as a caller drives it: with a state, and with the state of each answer again, so many times at most; what the answer that
-- is done found
abbrev pub on_step : Result SeekStep SearchError → (SeekState → Option (Option ℕ)) → Option (Option ℕ)
on_step (Ok (Step.More state)) again = again state
on_step (Ok (Step.Scan state)) again = again state
on_step (Ok (Step.Done found)) again = Some found
on_step (Err refusal) again = None

unfoldable pub drive : (SeekState → Result SeekStep SearchError) → ℕ → SeekState → Option (Option ℕ)
drive step zero state = None
drive step (suc turns) state = on_step (step state) (λ (next : SeekState). drive step turns next)

-- what is found, as an answer of the plain seek and as one of the whole seek
abbrev pub plain_answer : Option ℕ → Result (Option ℕ) TraceTooLong
plain_answer found = Ok found

abbrev pub whole_answer : ℕ → Option ℕ → Result SeekTime TraceTooLong
whole_answer halvings found = Ok (record { offset = found; halvings = halvings })

-- what the calls answer: `plain_seek`, `seek_time`, `seek_start`, and `seek_step` for each state. All find the same record, or none: the
-- stepped seek once enough steps are made
pub record SameAnswers
    (plain : Result (Option ℕ) TraceTooLong) (whole : Result SeekTime TraceTooLong) (start : Result SeekState TraceTooLong)
    (step : SeekState → Result SeekStep SearchError) : Type 0 where
  pub found : Option ℕ
  pub plain_is : plain ≡ plain_answer found
  pub halvings : ℕ
  pub whole_is : whole ≡ whole_answer halvings found
  pub state : SeekState
  pub starts : start ≡ Ok state
  pub enough : ℕ
  pub stepped : (turns : ℕ) → enough ≤ turns → drive step turns state ≡ Some found
