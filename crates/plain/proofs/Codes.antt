-- The theorem for who holds the answers: what the four calls answer, by their promises, is the same record or none. Assumes nothing.
use Prim.Native.Nat.{ℕ, zero, suc, ◌≤◌}
use lib.IntN.{ℤ}
use mathlib.Core.List.{List}
use Rattle.std.specs.Prelude.{Option, Some, Result, Ok}
use mathlib.Core.Path.{◌≡◌, ◌∙◌}
use native.Mathlib.Omega.{arith}
use Rattle.record.specs.Record.{Limits}
use Rattle.seek.proofs.Only.{only_seek, only_start, only_step}
use Rattle.seek.specs.Seek.{seek_of, told_seek}
use Rattle.seek.specs.Step.{told_start, start_at, step_at, told_step, Driven, ends, goes_on, scans}
use Rattle.layout.specs.declared.TraceTooLong.{TraceTooLong}
use Rattle.resync.specs.declared.SearchError.{SearchError}
use Rattle.seek.specs.declared.SeekState.{SeekState}
use Rattle.seek.specs.declared.SeekStep.{SeekStep}
use Rattle.seek.specs.declared.SeekStep.TheVariants as Step
use Rattle.seek.specs.declared.SeekTime.{SeekTime}
use Rattle.span.specs.Met.{Trace, trace_of}
use Rattle.plain.specs.Plain.{plain_of, told_plain}
use Rattle.plain.specs.Premises.{Premises}
use Rattle.plain.specs.Agree.{SameAsPlain, on_step, drive, plain_answer, whole_answer, SameAnswers}
use Rattle.plain.proofs.Only.{only_plain}
use Rattle.plain.proofs.Same.{same_in}

module _ (t : Trace) (target : ℤ) (step : SeekState → Result SeekStep SearchError) (keeps : (state : SeekState) → told_step (step state) ≡ step_at t target state) where
  -- a step that leads on leaves one turn less, and one that is done ends
  leads_on :
      (state next : SeekState) (found : Option ℕ) (enough : ℕ) → ((again : SeekState → Option (Option ℕ)) → on_step (step state) again ≡ again next)
      → ((turns : ℕ) → enough ≤ turns → drive step turns next ≡ Some found) → (turns : ℕ) → suc enough ≤ turns → drive step turns state ≡ Some found
  unfolding drive
  leads_on state next found enough e rest zero l = absurd (omega arith)
  leads_on state next found enough e rest (suc turns) l = e (drive step turns) ∙ rest turns (omega arith)

  is_done : (state : SeekState) (found : Option ℕ) → step state ≡ Ok (Step.Done found) → (turns : ℕ) → 1 ≤ turns → drive step turns state ≡ Some found
  unfolding drive
  is_done state found e zero l = absurd (omega arith)
  is_done state found e (suc turns) l = simp e

  -- a caller's drive ends as the definition's does
  driven_in : {state : SeekState} {o : Option ℕ} {h : ℕ} → Driven t target state o h → (enough : ℕ) × ((turns : ℕ) → enough ≤ turns → drive step turns state ≡ Some o)
  driven_in (ends {state} {found = o} e) =
      let is : step state ≡ Ok (Step.Done o) = only_step (step state) (Ok (Step.Done o)) (keeps state ∙ e) in
      (1, is_done state o is)
  driven_in (goes_on {state} {next} {found = o} e d) =
      let is : step state ≡ Ok (Step.More next) = only_step (step state) (Ok (Step.More next)) (keeps state ∙ e) in
      let rest : _ = driven_in d in
      (suc rest.0, leads_on state next o rest.0 (λ again. simp is) rest.1)
  driven_in (scans {state} {next} {found = o} e d) =
      let is : step state ≡ Ok (Step.Scan next) = only_step (step state) (Ok (Step.Scan next)) (keeps state ∙ e) in
      let rest : _ = driven_in d in
      (suc rest.0, leads_on state next o rest.0 (λ again. simp is) rest.1)

  pub answers_same :
      SameAsPlain t target → (plain : Result (Option ℕ) TraceTooLong) (whole : Result SeekTime TraceTooLong) (start : Result SeekState TraceTooLong) → told_plain plain ≡ plain_of t target → told_seek whole ≡ seek_of t target
      → told_start start ≡ start_at t → SameAnswers plain whole start step
  answers_same same plain whole start p w s =
      let drives : _ = driven_in same.stepped in
      record {
        found = same.found;
        plain_is = only_plain plain (plain_answer same.found) (p ∙ same.plain);
        halvings = same.halvings;
        whole_is = only_seek whole (whole_answer same.halvings same.found) (w ∙ same.whole);
        state = same.state;
        starts = only_start start (Ok same.state) (s ∙ same.starts);
        enough = drives.0;
        stepped = drives.1;
      }

-- 02's theorem, of the bytes of a trace, whatever the limits of a record's ticks, and of any answers that keep the promises of `plain_seek`,
-- `seek_time`, `seek_start` and `seek_step`
pub codes_agree :
    (limits : Limits) (kinds s : List ℕ) → Premises (trace_of limits kinds s) → (target : ℤ)
    → (plain : Result (Option ℕ) TraceTooLong) → told_plain plain ≡ plain_of (trace_of limits kinds s) target
    → (whole : Result SeekTime TraceTooLong) → told_seek whole ≡ seek_of (trace_of limits kinds s) target
    → (start : Result SeekState TraceTooLong) → told_start start ≡ start_at (trace_of limits kinds s)
    → (step : SeekState → Result SeekStep SearchError) → ((state : SeekState) → told_step (step state) ≡ step_at (trace_of limits kinds s) target state)
    → SameAnswers plain whole start step
codes_agree limits kinds s p target plain e whole f start g step h =
    answers_same (trace_of limits kinds s) target step h (same_in limits kinds s p target) plain whole start e f g
