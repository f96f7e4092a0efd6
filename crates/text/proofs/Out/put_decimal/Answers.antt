-- `text::Out::put_decimal` meets its contract. Assumes nothing.
use mathlib.Core.Path.{◌∙◌}
use Rattle.text.proofs.Puts.{renamed}
use Rattle.text.proofs.Decimals.{decimal_is}
use Rattle.text.proofs.Out.put_decimal.Goals as goal

pub returns : goal.returns
returns c = renamed (c.decimal-k.ensures.digits ∙ decimal_is _ _ c.decimal-k.ensures.len) c.put_text.ensures
