-- `show::frame_line` meets its contract: one text after the other. Assumes nothing.
use Rattle.text.proofs.Puts.{joined}
use Rattle.show.proofs.frame_line.Goals as goal

pub returns : goal.returns
returns c = joined (joined c.put_heard.ensures c.put_numbers.ensures) c.put_mpdu.ensures
