-- `fields::mark_fields` meets its contract: each answer has its own text. Assumes nothing.
use mathlib.Core.List.{[], ◌∷◌}
use mathlib.Core.Path.{ap, sym, ◌∙◌}
use Rattle.std.specs.Prelude.{Result, Ok}
use Rattle.seam.specs.declared.Seam.{Seam}
use Rattle.seam.specs.declared.SeamError.{SeamError}
use Rattle.text.proofs.Puts.{renamed}
use Rattle.lines.specs.Lines.{spaced, line_text}
use Rattle.fields.specs.Fields.{mark_fields}
use Rattle.fields.proofs.Same.{line_is}
use Rattle.fields.proofs.mark_fields.Goals as goal

pub returns-in-Ok-Unbroken : goal.returns-in-Ok-Unbroken
unfolding mark_fields
returns-in-Ok-Unbroken c =
    let a = c.args in let arm = c.in-Ok-Unbroken in
    renamed (line_is 0x55 (a.place ∷ arm.records ∷ []) ∙ ap (λ (m : Result Seam SeamError). mark_fields m a.place) (sym (arm.is ∙ ap Ok (rw arm.is at arm.field-0-is))))
    c.put_line.ensures

pub returns-in-Ok-Broken : goal.returns-in-Ok-Broken
unfolding mark_fields
returns-in-Ok-Broken c =
    let a = c.args in let arm = c.in-Ok-Broken in
    renamed
    (line_is 0x42 (a.place ∷ arm.stop ∷ arm.records ∷ []) ∙ ap (λ (m : Result Seam SeamError). mark_fields m a.place) (sym (arm.is ∙ ap Ok (rw arm.is at arm.field-0-is))))
    c.put_line-in-Ok-Broken.ensures

pub returns-in-Err : goal.returns-in-Err
unfolding mark_fields line_text spaced
returns-in-Err c = renamed (ap (λ (m : Result Seam SeamError). mark_fields m c.args.place) (sym c.in-Err.is)) c.put_line-in-Err.ensures
