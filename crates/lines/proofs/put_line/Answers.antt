-- `lines::put_line` meets its contract. Assumes nothing.
use Rattle.text.proofs.Puts.{joined}
use Rattle.lines.specs.Lines.{line_text}
use Rattle.lines.proofs.Lines.{letter}
use Rattle.lines.proofs.put_line.Goals as goal

pub returns : goal.returns
unfolding line_text
returns c = joined (letter c.put_byte.ensures c.put_fields.ensures) c.put_byte-2.ensures
