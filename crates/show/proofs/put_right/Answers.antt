-- `show::put_right` meets its contract. Assumes nothing.
use native.Mathlib.Omega.{arith}
use Rattle.show.proofs.Texts.{at_right_of}
use Rattle.show.proofs.put_right.Goals as goal

pub returns : goal.returns
returns c = at_right_of c.args.width _ (omega (arith, c.saturating_sub.ensures, c.digits.ensures)) c.put_spaces.ensures c.put_decimal.ensures
