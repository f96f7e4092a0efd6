-- `names::put_kind` meets its contract: an entry of the table. Assumes nothing.
use mathlib.Core.Path.{◌∙◌}
use native.Mathlib.Omega.{arith}
use Rattle.text.proofs.Puts.{renamed}
use Rattle.names.specs.Names.{kinds, kind_text}
use Rattle.names.proofs.Texts.{entry_at}
use Rattle.names.proofs.put_kind.Goals as goal

pub returns : goal.returns
unfolding kind_text kinds
returns c = renamed (entry_at kinds 14 6 _ _ (omega arith) (c.from.ensures ∙ c.min.ensures)) c.put_text.ensures
