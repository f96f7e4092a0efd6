-- `show::mark_line` meets its contract: each answer has its own text. Assumes nothing.
use mathlib.Core.Path.{ap, sym, ◌∙◌}
use Rattle.std.specs.Prelude.{Result, Ok}
use Rattle.seam.specs.declared.Seam.{Seam}
use Rattle.seam.specs.declared.SeamError.{SeamError}
use Rattle.text.proofs.Puts.{renamed}
use Rattle.show.specs.Person.{mark_text}
use Rattle.show.proofs.mark_line.Goals as goal

pub returns-in-Ok-Unbroken : goal.returns-in-Ok-Unbroken
unfolding mark_text
returns-in-Ok-Unbroken c =
    let arm = c.in-Ok-Unbroken in
    renamed (ap (λ (m : Result Seam SeamError). mark_text m c.args.place c.args.size) (sym (arm.is ∙ ap Ok (rw arm.is at arm.field-0-is))))
    c.unbroken_line.ensures

pub returns-in-Ok-Broken : goal.returns-in-Ok-Broken
unfolding mark_text
returns-in-Ok-Broken c =
    let arm = c.in-Ok-Broken in
    renamed (ap (λ (m : Result Seam SeamError). mark_text m c.args.place c.args.size) (sym (arm.is ∙ ap Ok (rw arm.is at arm.field-0-is))))
    c.broken_line.ensures

pub returns-in-Err : goal.returns-in-Err
unfolding mark_text
returns-in-Err c = renamed (ap (λ (m : Result Seam SeamError). mark_text m c.args.place c.args.size) (sym c.in-Err.is)) c.put_text.ensures
