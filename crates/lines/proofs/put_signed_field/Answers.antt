-- `lines::put_signed_field` meets its contract. Assumes nothing.
use Rattle.lines.proofs.Lines.{field, same_fields, kept}
use Rattle.lines.proofs.put_signed_field.Goals as goal

pub returns : goal.returns
returns c = same_fields (kept _ c.ranges.z) (field c.put_byte.ensures c.put_signed.ensures)
