-- `text::Out::put_text` meets its contract: at each turn the bytes from the one that comes on are left to be put. Assumes nothing.
use lib.ListN.{drop}
use Rattle.text.proofs.Puts.{Left}
use Rattle.text.proofs.Out.put_text.Given as goal

abbrev pub invariant-loop-b : goal.invariant-loop-b
invariant-loop-b l = Left l.text l.initial.self (drop l.b-index l.text) l.self
