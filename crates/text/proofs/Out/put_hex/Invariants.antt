-- `text::Out::put_hex` meets its contract: at each turn the digits of the bytes from the one that comes on are left to be put. Assumes nothing.
use lib.ListN.{drop}
use Rattle.text.proofs.Puts.{Left}
use Rattle.text.specs.Texts.{hex_text}
use Rattle.text.proofs.Out.put_hex.Given as goal

abbrev pub invariant-loop-b : goal.invariant-loop-b
invariant-loop-b l = Left (hex_text l.bytes) l.initial.self (hex_text (drop l.b-index l.bytes)) l.self
