-- `show::put_named` meets its contract: one text after the other. Assumes nothing.
use Rattle.text.proofs.Puts.{joined}
use Rattle.show.proofs.put_named.Goals as goal

pub returns : goal.returns
returns c = joined c.put_text.ensures c.put_decimal.ensures
