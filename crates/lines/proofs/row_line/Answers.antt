-- `lines::row_line` meets its contract. Assumes nothing.
use Rattle.text.proofs.Puts.{joined}
use Rattle.lines.specs.Lines.{line_text, row_text}
use Rattle.lines.proofs.row_line.Goals as goal

pub returns : goal.returns
unfolding row_text line_text
returns c = joined c.put_row.ensures c.put_byte.ensures
