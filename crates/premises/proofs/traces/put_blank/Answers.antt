-- `premises::traces::put_blank` meets its contract: the head, the payload, the end byte. Assumes nothing.
use Rattle.text.proofs.Puts.{joined}
use Rattle.premises.proofs.traces.put_blank.Goals as goal

pub returns : goal.returns
returns c = joined c.put_head.ensures (joined c.put_zeros.ensures c.put_byte.ensures)
