-- `names::put_bytes` meets its contract. Assumes nothing.
use mathlib.Core.Path.{sym, ◌∙◌}
use Rattle.text.proofs.Puts.{renamed}
use Rattle.names.proofs.Texts.{no_bytes, some_bytes}
use Rattle.names.proofs.put_bytes.Goals as goal

pub returns-then-is_empty : goal.returns-then-is_empty
returns-then-is_empty c = renamed (no_bytes _ (sym c.is_empty.ensures ∙ c.if-is_empty.true)) c.put_byte.ensures

pub returns-else-is_empty : goal.returns-else-is_empty
returns-else-is_empty c = renamed (some_bytes _ (sym c.is_empty.ensures ∙ c.if-is_empty.false)) c.put_hex.ensures
