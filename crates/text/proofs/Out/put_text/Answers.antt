-- `text::Out::put_text` meets its contract: at each turn the bytes from the one that comes on are left to be put. Assumes nothing.
use borrow.Author.Rules.{rules}
use lib.ListN.{drop_of_length-le}
use Rattle.text.proofs.Puts.{less_left, none_left, next_byte}
use Rattle.text.proofs.Out.put_text.Goals as goal

pub loop-b-preserved : goal.loop-b-preserved
loop-b-preserved c = less_left c.loop-b.invariant (next_byte c.args.text.now c.loop-b.b-index (search rules)) c.put_byte.ensures

pub returns : goal.returns
returns c = none_left c.loop-b.invariant (drop_of_length-le c.args.text.now {i = c.loop-b.b-index} (search rules))
