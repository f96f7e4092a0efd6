-- `lines::put_fields` meets its contract: at each turn the fields of the numbers from the one that comes on are left to be put. Assumes nothing.
use mathlib.Core.List.{map}
use lib.ListN.{drop}
use Rattle.text.proofs.Puts.{Left}
use Rattle.text.specs.Texts.{decimal_text}
use Rattle.lines.specs.Lines.{spaced}
use Rattle.lines.proofs.put_fields.Given as goal

abbrev pub invariant-loop-n : goal.invariant-loop-n
invariant-loop-n l = Left (spaced (map decimal_text l.numbers)) l.initial.out (spaced (map decimal_text (drop l.n-index l.numbers))) l.out
