-- `names::instant` meets its contract. Assumes nothing.
use mathlib.Core.Path.{◌∙◌}
use mir.Syntax.{w64}
use mir.ValLaws.{to_z-of_z}
use Rattle.names.proofs.Texts.{instant_is}
use Rattle.names.proofs.instant.Goals as goal

pub returns : goal.returns
returns c = c.unwrap_or.ensures ∙ instant_is c.args.millis _ c.ranges.millis (rw (to_z-of_z w64 c.args.millis c.ranges.millis) at c.checked_add_signed.ensures)
