-- `lines::put_field` meets its contract. Assumes nothing.
use Rattle.lines.proofs.Lines.{field}
use Rattle.lines.proofs.put_field.Goals as goal

pub returns : goal.returns
returns c = field c.put_byte.ensures c.put_decimal.ensures
