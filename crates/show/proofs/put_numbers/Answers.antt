-- `show::put_numbers` meets its contract: one text after the other. Assumes nothing.
use lib.IntN.{ℤ}
use mathlib.Core.Path.{ap, ◌∙◌}
use mir.Syntax.{w64}
use mir.Val.{to_z, of_z}
use borrow.Author.Rules.{rules}
use Rattle.text.proofs.Signs.{still}
use Rattle.text.proofs.Puts.{joined}
use Rattle.show.specs.Person.{numbers_text}
use Rattle.show.proofs.Texts.{same_right, same_signed}
use Rattle.show.proofs.put_numbers.Goals as goal

pub returns : goal.returns
unfolding numbers_text
returns c =
    joined
    (joined
    (joined
    (joined
    (joined (same_right 4 c.from.ensures c.put_right.ensures) (same_signed 6 (ap (λ (z : ℤ). to_z w64 (of_z w64 z)) c.from-2.ensures ∙ still {z = c.args.row.rssi} (search rules)) c.put_right_signed.ensures))
    (same_right 7 c.from-3.ensures c.put_right-2.ensures))
    c.put_right-3.ensures)
    c.put_right-4.ensures)
    c.put_byte.ensures
