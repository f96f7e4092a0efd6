-- `show::unbroken_line` meets its contract: one text after the other. Assumes nothing.
use Rattle.text.proofs.Puts.{joined}
use Rattle.show.specs.Person.{unbroken_text}
use Rattle.show.proofs.unbroken_line.Goals as goal

pub returns : goal.returns
unfolding unbroken_text
returns c =
    joined
    (joined
    (joined c.put_named.ensures c.put_named-2.ensures)
    c.put_named-3.ensures)
    c.put_byte.ensures
