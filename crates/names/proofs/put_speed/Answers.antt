-- `names::put_speed` meets its contract: an entry of the table. Assumes nothing.
use mathlib.Core.Path.{◌∙◌}
use native.Mathlib.Omega.{arith}
use Rattle.text.proofs.Puts.{renamed}
use Rattle.names.specs.Names.{speeds, speed_text}
use Rattle.names.proofs.Texts.{entry_at}
use Rattle.names.proofs.put_speed.Goals as goal

pub returns : goal.returns
unfolding speed_text speeds
returns c = renamed (entry_at speeds 5 5 _ _ (omega arith) (c.from.ensures ∙ c.min.ensures)) c.put_text.ensures
