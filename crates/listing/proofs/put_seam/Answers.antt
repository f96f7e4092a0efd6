-- `listing::put_seam` meets its contract. Assumes nothing.
use mathlib.Core.Path.{sym, ap, ◌∙◌}
use Rattle.std.specs.Prelude.{Result, Ok}
use Rattle.seam.specs.Seam.{told_seam}
use Rattle.seam.specs.declared.Seam.{Seam}
use Rattle.seam.specs.declared.SeamError.{SeamError}
use Rattle.text.proofs.Puts.{renamed}
use Rattle.lines.specs.Lines.{refusal_text}
use Rattle.listing.specs.Listing.{seam_line}
use Rattle.listing.proofs.Answers.{unchecked}
use Rattle.listing.proofs.put_seam.Goals as goal

pub returns-in-Ok-Unbroken : goal.returns-in-Ok-Unbroken
unfolding seam_line
returns-in-Ok-Unbroken c =
    let arm = c.in-Ok-Unbroken in
    renamed (ap (λ (m : Result Seam SeamError). seam_line c.args.place (told_seam m)) (sym (arm.is ∙ ap Ok (rw arm.is at arm.field-0-is)))) c.put_line.ensures

pub returns-in-Ok-Broken : goal.returns-in-Ok-Broken
unfolding seam_line
returns-in-Ok-Broken c =
    let arm = c.in-Ok-Broken in
    renamed (ap (λ (m : Result Seam SeamError). seam_line c.args.place (told_seam m)) (sym (arm.is ∙ ap Ok (rw arm.is at arm.field-0-is))))
    c.put_line-in-Ok-Broken.ensures

pub returns-in-Err : goal.returns-in-Err
returns-in-Err c =
    renamed (ap refusal_text c.number.ensures ∙ unchecked c.args.place c.in-Err.error ∙ ap (λ (m : Result Seam SeamError). seam_line c.args.place (told_seam m)) (sym c.in-Err.is))
    c.refusal_line.ensures
