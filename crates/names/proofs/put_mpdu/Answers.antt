-- `names::put_mpdu` meets its contract: one text after the other. Assumes nothing.
use Rattle.text.proofs.Puts.{joined}
use Rattle.names.specs.Names.{mpdu_text}
use Rattle.names.proofs.put_mpdu.Goals as goal

pub returns : goal.returns
unfolding mpdu_text
returns c = joined c.put_byte.ensures (joined c.put_bytes.ensures c.put_byte-2.ensures)
