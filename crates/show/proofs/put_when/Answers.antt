-- `show::put_when` meets its contract: one text after the other. Assumes nothing.
use mathlib.Core.Path.{ap, ◌∙◌}
use mir.Syntax.{w64}
use mir.ValLaws.{to_z-of_z}
use borrow.Author.Rules.{sfits_of}
use Rattle.names.specs.Names.{time_text}
use Rattle.text.proofs.Puts.{joined, renamed}
use Rattle.show.specs.Person.{when_text}
use Rattle.show.proofs.put_when.Goals as goal

pub returns : goal.returns
unfolding when_text
returns c =
    joined
    (joined c.put_right.ensures c.put_byte.ensures)
    (renamed (ap time_text (to_z-of_z w64 c.unix_millis.result (sfits_of c.unix_millis.type_inv) ∙ c.unix_millis.ensures)) c.put_time.ensures)
