-- `show::count_line` meets its contract: one text after the other. Assumes nothing.
use Rattle.text.proofs.Puts.{joined}
use Rattle.show.specs.Person.{count_text}
use Rattle.show.proofs.count_line.Goals as goal

pub returns : goal.returns
unfolding count_text
returns c =
    joined
    (joined
    (joined
    (joined c.put_text.ensures c.put_kind.ensures)
    c.put_right.ensures)
    c.put_right-2.ensures)
    c.put_byte.ensures
