-- `zlf::facts::put_line` meets its contract: at each turn the line from the byte that comes on is left to be put. Assumes nothing.
use lib.ListN.{drop}
use Rattle.text.proofs.Puts.{Left}
use Rattle.zlf.specs.Facts.{line_text}
use Rattle.zlf.proofs.facts.put_line.Given as goal

abbrev pub invariant-loop-b : goal.invariant-loop-b
invariant-loop-b l = Left (line_text l.text l.initial.left) l.initial.out (line_text (drop l.b-index l.text) l.left) l.out
