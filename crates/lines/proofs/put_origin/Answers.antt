-- `lines::put_origin` meets its contract. Assumes nothing.
use borrow.Author.Rules.{rules}
use Rattle.lines.proofs.Lines.{fields, same_fields, kept}
use Rattle.lines.proofs.put_origin.Goals as goal

pub returns : goal.returns
returns c =
    let r = c.args.r in
    fields c.put_fields.ensures
    (fields (same_fields (kept r.millis (search rules)) c.put_signed_field.ensures)
    (same_fields (kept r.gap (search rules)) c.put_signed_field-2.ensures))
