-- Each answer is told in numbers of its own: two answers that tell the same are the same, so a promise about what is told determines the answer. Assumes nothing.
use Prim.Native.Nat.{ℕ}
use lib.Dec.{eqb}
use mathlib.Core.Bool.{cond}
use mathlib.Core.Path.{◌≡◌, refl, ap}
use Rattle.choice.proofs.Only.{only}
use Rattle.std.specs.Prelude.{Option, None, Some, Result, Ok, Err}
use Rattle.layout.specs.declared.TraceTooLong.{TraceTooLong}
use Rattle.resync.proofs.Only.{back_refusal}
use Rattle.resync.specs.declared.SearchError.{SearchError}
use Rattle.resync.specs.declared.SearchError.TheVariants as Why
use Rattle.seek.specs.Seek.{SeekTold, told_seek}
use Rattle.seek.specs.Step.{StateTold, told_state, StartTold, told_start, StepTold, told_step}
use Rattle.seek.specs.declared.SeekTime.{SeekTime}
use Rattle.seek.specs.declared.SeekState.{SeekState}
use Rattle.seek.specs.declared.SeekState.TheVariants.{Searching, Scanning}
use Rattle.seek.specs.declared.SeekStep.{SeekStep}
use Rattle.seek.specs.declared.SeekStep.TheVariants as Step

back_seek : SeekTold → Result SeekTime TraceTooLong
back_seek t =
    cond (eqb t.refusal 0) (Ok (record { offset = cond t.is_found (Some t.offset) None; halvings = t.halvings })) (Err (record {}))

same_by : (o : Option ℕ) (h : ℕ) → back_seek (told_seek (Ok (record { offset = o; halvings = h }))) ≡ Ok (record { offset = o; halvings = h })
unfolding back_seek
same_by (Some o) h = refl
same_by None h = refl

same_seek : (r : Result SeekTime TraceTooLong) → back_seek (told_seek r) ≡ r
unfolding back_seek
same_seek (Ok seek) = same_by seek.offset seek.halvings
same_seek (Err refusal) = refl

pub only_seek : (a b : Result SeekTime TraceTooLong) → told_seek a ≡ told_seek b → a ≡ b
only_seek = only told_seek back_seek same_seek

back_state : StateTold → SeekState
back_state t = cond t.searching (Searching t.lo t.hi) (Scanning t.at)

same_state : (r : SeekState) → back_state (told_state r) ≡ r
unfolding back_state
same_state (Searching lo hi) = refl
same_state (Scanning at) = refl

pub only_state : (a b : SeekState) → told_state a ≡ told_state b → a ≡ b
only_state = only told_state back_state same_state

back_start : StartTold → Result SeekState TraceTooLong
back_start t = cond (eqb t.refusal 0) (Ok (back_state t.state)) (Err (record {}))

same_start : (r : Result SeekState TraceTooLong) → back_start (told_start r) ≡ r
unfolding back_start
same_start (Ok st) = ap (λ (x : SeekState). Ok x) (same_state st)
same_start (Err refusal) = refl

pub only_start : (a b : Result SeekState TraceTooLong) → told_start a ≡ told_start b → a ≡ b
only_start = only told_start back_start same_start

back_step : StepTold → Result SeekStep SearchError
back_step t =
    cond (eqb t.refusal 0)
    (Ok
    (cond (eqb t.answer 1) (Step.More (back_state t.state))
    (cond (eqb t.answer 2) (Step.Scan (back_state t.state))
    (Step.Done (cond t.is_found (Some t.offset) None)))))
    (Err (back_refusal t.refusal))

same_step : (r : Result SeekStep SearchError) → back_step (told_step r) ≡ r
unfolding back_step
same_step (Ok (Step.More st)) = ap (λ (x : SeekState). Ok (Step.More x)) (same_state st)
same_step (Ok (Step.Scan st)) = ap (λ (x : SeekState). Ok (Step.Scan x)) (same_state st)
same_step (Ok (Step.Done (Some o))) = refl
same_step (Ok (Step.Done None)) = refl
same_step (Err Why.TraceTooLong) = refl
same_step (Err Why.WindowTooLong) = refl

pub only_step : (a b : Result SeekStep SearchError) → told_step a ≡ told_step b → a ≡ b
only_step = only told_step back_step same_step
