-- `show::put_rate` meets its contract: one text after the other. Assumes nothing.
use Rattle.text.proofs.Puts.{joined}
use Rattle.show.specs.Person.{rate_text}
use Rattle.show.proofs.put_rate.Goals as goal

pub returns : goal.returns
unfolding rate_text
returns c = joined c.put_byte.ensures c.put_speed.ensures
