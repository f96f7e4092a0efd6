-- Each answer of a step is told in numbers of its own: two answers that tell the same are the same, so the promise about what is told determines the
-- answer. Assumes nothing.
use lib.Dec.{eqb}
use mathlib.Core.Bool.{cond}
use mathlib.Core.Path.{◌≡◌, refl}
use Rattle.choice.proofs.Only.{only}
use Rattle.std.specs.Prelude.{Option, None, Some, Result, Ok, Err}
use Rattle.rows.specs.declared.Row.{Row}
use Rattle.steps.specs.Step.{StepTold, told_step}
use Rattle.steps.specs.declared.Place.{Place}
use Rattle.steps.specs.declared.Step.{Step}
use Rattle.steps.specs.declared.StepError.{StepError}

back_step : StepTold → Result Step StepError
back_step t =
    cond t.is_place (Ok (record { row = cond t.is_row (Some t.row) None; next = t.next }))
    (cond (eqb t.refusal 0) (Err StepError.NoSuchPlace) (Err StepError.TraceTooLong))

module _ (p : Place) where
  same_row : (row : Option Row) (next : Place) → back_step (told_step p (Ok (record { row = row; next = next }))) ≡ Ok (record { row = row; next = next })
  unfolding back_step
  same_row (Some row) next = refl
  same_row None next = refl

  same_step : (r : Result Step StepError) → back_step (told_step p r) ≡ r
  unfolding back_step
  same_step (Ok r) = same_row r.row r.next
  same_step (Err StepError.TraceTooLong) = refl
  same_step (Err StepError.NoSuchPlace) = refl

  pub only_step : (a b : Result Step StepError) → told_step p a ≡ told_step p b → a ≡ b
  only_step = only (told_step p) back_step same_step
