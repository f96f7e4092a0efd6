-- `lines::put_row` meets its contract. Assumes nothing.
use Rattle.lines.proofs.Lines.{fields, letter}
use Rattle.lines.proofs.put_row.Goals as goal

pub returns : goal.returns
returns c = letter c.put_byte.ensures (fields c.put_origin.ensures (fields c.put_radio.ensures c.put_mpdu.ensures))
