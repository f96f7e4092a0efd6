-- `show::digits` meets its contract. Assumes nothing.
use Rattle.show.proofs.Texts.{digits_are}
use Rattle.show.proofs.digits.Goals as goal

pub returns : goal.returns
returns c = digits_are _ _ _ c.decimal.ensures.in_bounds c.decimal.ensures.len c.decimal.ensures.digits
