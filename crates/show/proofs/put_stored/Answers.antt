-- `show::put_stored` meets its contract: one text after the other. Assumes nothing.
use Rattle.text.proofs.Puts.{joined}
use Rattle.show.specs.Person.{stored_text}
use Rattle.show.proofs.put_stored.Goals as goal

pub returns : goal.returns
unfolding stored_text
returns c = joined (joined c.put_hex.ensures c.put_byte.ensures) c.put_kind.ensures
