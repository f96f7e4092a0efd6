-- `show::put_heard` meets its contract: one text after the other. Assumes nothing.
use mathlib.Core.Path.{ap}
use mir.Syntax.{w64}
use mir.ValLaws.{to_z-of_z}
use borrow.Author.Rules.{rules}
use Rattle.names.specs.Names.{time_text}
use Rattle.text.proofs.Puts.{joined, renamed}
use Rattle.show.specs.Person.{heard_text}
use Rattle.show.proofs.Texts.{same_signed}
use Rattle.show.proofs.put_heard.Goals as goal

pub returns : goal.returns
unfolding heard_text
returns c =
    joined
    (joined
    (joined
    (joined (renamed (ap time_text (to_z-of_z w64 c.args.row.millis (search rules))) c.put_time.ensures) (same_signed 15 (to_z-of_z w64 c.args.row.gap (search rules)) c.put_right_signed.ensures))
    (renamed c.direction_name.ensures c.put_text.ensures))
    c.put_region.ensures)
    c.put_speed.ensures
