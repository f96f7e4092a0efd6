-- Each answer is told in numbers of its own: two answers that tell the same are the same, so a promise about what is told determines the answer.
-- Assumes nothing.
use lib.Dec.{eqb}
use mathlib.Core.Bool.{cond}
use mathlib.Core.Path.{◌≡◌, refl}
use Rattle.choice.proofs.Only.{only}
use Rattle.seam.specs.Opening.{OpeningTold, told_opening}
use Rattle.seam.specs.Seam.{SeamTold, told_seam}
use Rattle.seam.specs.declared.OpenError.{OpenError}
use Rattle.seam.specs.declared.Seam.{Seam}
use Rattle.seam.specs.declared.SeamError.{SeamError}
use Rattle.std.specs.Prelude.{ℕ, Result, Ok, Err}

back_opening : OpeningTold → Result ℕ OpenError
back_opening t =
    cond (eqb t.refusal 0) (Ok t.version)
    (cond (eqb t.refusal 1) (Err OpenError.TraceTooLong)
    (cond (eqb t.refusal 2) (Err OpenError.TraceTooShort) (Err (OpenError.OtherVersion t.version))))

same_opening : (r : Result ℕ OpenError) → back_opening (told_opening r) ≡ r
unfolding back_opening
same_opening (Ok v) = refl
same_opening (Err OpenError.TraceTooLong) = refl
same_opening (Err OpenError.TraceTooShort) = refl
same_opening (Err (OpenError.OtherVersion v)) = refl

pub only_opening : (a b : Result ℕ OpenError) → told_opening a ≡ told_opening b → a ≡ b
only_opening = only told_opening back_opening same_opening

back_seam : SeamTold → Result Seam SeamError
back_seam t =
    cond t.is_unbroken (Ok (Seam.Unbroken t.records))
    (cond (eqb t.refusal 0) (Ok (Seam.Broken t.place t.records))
    (cond (eqb t.refusal 1) (Err SeamError.TraceTooLong) (Err SeamError.PlaceOutside)))

same_seam : (r : Result Seam SeamError) → back_seam (told_seam r) ≡ r
unfolding back_seam
same_seam (Ok (Seam.Unbroken k)) = refl
same_seam (Ok (Seam.Broken p k)) = refl
same_seam (Err SeamError.TraceTooLong) = refl
same_seam (Err SeamError.PlaceOutside) = refl

pub only_seam : (a b : Result Seam SeamError) → told_seam a ≡ told_seam b → a ≡ b
only_seam = only told_seam back_seam same_seam
