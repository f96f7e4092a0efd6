-- `lines::put_radio` meets its contract. Assumes nothing.
use Rattle.lines.proofs.Lines.{field, fields, same_fields}
use Rattle.lines.proofs.put_radio.Goals as goal

pub returns : goal.returns
returns c = same_fields (cc) (fields (field c.put_byte.ensures c.put_byte-2.ensures) c.put_fields.ensures)
