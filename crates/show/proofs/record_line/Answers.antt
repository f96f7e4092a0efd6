-- `show::record_line` meets its contract: one text after the other. Assumes nothing.
use Rattle.text.proofs.Puts.{joined}
use Rattle.show.specs.Person.{record_text}
use Rattle.show.proofs.record_line.Goals as goal

pub returns : goal.returns
unfolding record_text
returns c =
    joined
    (joined
    (joined
    (joined
    (joined c.put_when.ensures c.put_held.ensures)
    c.put_stored.ensures)
    c.put_right.ensures)
    c.put_right-2.ensures)
    c.put_byte.ensures
