-- The stepped seek: where it starts, one step of it, and what it means that the steps end.
use Rattle.std.specs.Prelude.{ℕ, ◌+◌, ltb, eqb, ℤ, Bool, true, false, cond, ◌≡◌, Option, None, Some, Result, Ok, Err}
use Rattle.layout.specs.Layout.{header_size, trace_limit}
use Rattle.layout.specs.declared.TraceTooLong.{TraceTooLong}
use Rattle.resync.specs.Search.{search_refusal}
use Rattle.resync.specs.declared.SearchError.{SearchError}
use Rattle.span.specs.Met.{Trace, MetTold, meet, first_met}
use Rattle.seek.specs.Seek.{wide, middle, earlier, next_lo, next_hi}
use Rattle.seek.specs.declared.SeekState.{SeekState}
use Rattle.seek.specs.declared.SeekState.TheVariants.{Searching, Scanning}
use Rattle.seek.specs.declared.SeekStep.{SeekStep}
use Rattle.seek.specs.declared.SeekStep.TheVariants as Step

-- a state in numbers: searching between lo and hi, or scanning from a place; what is not said is 0
pub record StateTold : Type 0 where
  pub searching : Bool
  pub lo : ℕ
  pub hi : ℕ
  pub at : ℕ

abbrev pub told_state : SeekState → StateTold
told_state (Searching lo hi) = record { searching = true; lo = lo; hi = hi; at = 0 }
told_state (Scanning at) = record { searching = false; lo = 0; hi = 0; at = at }

abbrev pub no_state : StateTold
no_state = record { searching = false; lo = 0; hi = 0; at = 0 }

-- where a stepped seek starts: the refusal's number or 0, and the state
pub record StartTold : Type 0 where
  pub refusal : ℕ
  pub state : StateTold

abbrev pub start_told : ℕ → StateTold → StartTold
start_told refusal state = record { refusal = refusal; state = state }

-- 01: "Seek starts with lo at the first record and hi at the length. .. Without one .. the stepped one starts lo at 2,048"
unfoldable pub start_at : Trace → StartTold
start_at t =
    cond (ltb trace_limit t.size) (start_told 1 no_state)
    (start_told 0 (told_state (Searching (cond (first_met t).is_found (first_met t).offset header_size) t.size)))

-- each answer in the paper's numbers
abbrev pub told_start : Result SeekState TraceTooLong → StartTold
told_start (Ok state) = start_told 0 (told_state state)
told_start (Err refusal) = start_told 1 no_state

-- 01: "A step answers more, scan or done, and the first two carry the state to pass back": the refusal's number or 0, the answer
-- (1 more, 2 scan, 3 done), the state, and of done whether a record was found and its place
pub record StepTold : Type 0 where
  pub refusal : ℕ
  pub answer : ℕ
  pub state : StateTold
  pub is_found : Bool
  pub offset : ℕ

abbrev pub refused : ℕ → StepTold
refused n = record { refusal = n; answer = 0; state = no_state; is_found = false; offset = 0 }

abbrev pub more : SeekState → StepTold
more state = record { refusal = 0; answer = 1; state = told_state state; is_found = false; offset = 0 }

abbrev pub scan : SeekState → StepTold
scan state = record { refusal = 0; answer = 2; state = told_state state; is_found = false; offset = 0 }

abbrev pub done : Option ℕ → StepTold
done None = record { refusal = 0; answer = 3; state = no_state; is_found = false; offset = 0 }
done (Some offset) = record { refusal = 0; answer = 3; state = no_state; is_found = true; offset = offset }

-- refusal 5, "judged only where a search is made": a step goes on from what its search met
abbrev pub unless : MetTold → StepTold → StepTold
unless m step = cond (eqb m.refusal 0) step (refused m.refusal)

-- a step, of the whole seek's parts: one halving, or one record of the walk
unfoldable pub step_of : (ℕ → MetTold) → ℕ → ℤ → SeekState → StepTold
step_of met n target (Searching lo hi) =
    cond (wide lo hi)
    (unless (met (middle lo hi)) (more (Searching (next_lo target lo (met (middle lo hi))) (next_hi target (middle lo hi) hi (met (middle lo hi))))))
    (scan (Scanning lo))
step_of met n target (Scanning at) =
    cond (ltb at n)
    (unless (met at)
    (cond (met at).is_found
    (cond (earlier target (met at)) (more (Scanning (met at).end)) (done (Some (met at).offset)))
    (done None)))
    (done None)

-- refusal 1: "the trace is over 1,073,741,824 bytes (all calls on a trace)"
unfoldable pub step_at : Trace → ℤ → SeekState → StepTold
step_at t target state = cond (ltb trace_limit t.size) (refused 1) (step_of (meet t) t.size target state)

-- each answer in the paper's numbers
abbrev pub told_step : Result SeekStep SearchError → StepTold
told_step (Ok (Step.More state)) = more state
told_step (Ok (Step.Scan state)) = scan state
told_step (Ok (Step.Done found)) = done found
told_step (Err refusal) = refused (search_refusal refusal)

-- a step that answers more is a halving where it was searching
abbrev pub halving_of : SeekState → ℕ
halving_of (Searching lo hi) = 1
halving_of (Scanning at) = 0

-- the stepped seek, driven from a state to its end: steps, each from the state that the last one carried, up to the one that is done;
-- what that one found, and how many of them were halvings
pub data Driven (t : Trace) (target : ℤ) : SeekState → Option ℕ → ℕ → Type 0 where
  ends : {state : SeekState} {found : Option ℕ} → step_at t target state ≡ done found → Driven t target state found 0
  goes_on :
      {state next : SeekState} {found : Option ℕ} {halvings : ℕ} → step_at t target state ≡ more next
      → Driven t target next found halvings → Driven t target state found (halvings + halving_of state)
  scans :
      {state next : SeekState} {found : Option ℕ} {halvings : ℕ} → step_at t target state ≡ scan next
      → Driven t target next found halvings → Driven t target state found halvings
