-- `show::put_held` meets its contract: one text after the other. Assumes nothing.
use Rattle.text.proofs.Puts.{joined, renamed}
use Rattle.show.specs.Person.{held_text}
use Rattle.show.proofs.Texts.{same_right}
use Rattle.show.proofs.put_held.Goals as goal

pub returns : goal.returns
unfolding held_text
returns c = joined (joined (renamed c.way_name.ensures c.put_text.ensures) (same_right 4 c.from.ensures c.put_right.ensures)) c.put_byte.ensures
