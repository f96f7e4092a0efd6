-- `zlf::facts::put_moment` meets its contract. Assumes nothing.
use Prim.Native.Nat.{◌<◌}
use lib.IntN.{pos}
use mir.Syntax.{w64}
use native.Mathlib.Omega.{arith}
use Rattle.std.proofs.lemmas.Int.{fits_signed_from_abs}
use Rattle.text.proofs.Puts.{renamed}
use Rattle.zlf.proofs.Lines.{late_moment}
use Rattle.zlf.proofs.facts.put_moment.Goals as goal

pub returns-in-Err : goal.returns-in-Err
returns-in-Err c =
    let late : c.args.millis < 9223372036854775808 → ⊥ = λ h. c.in-Err.ensures (fits_signed_from_abs w64 (pos c.args.millis) h) in
    renamed (late_moment _ (omega arith)) c.put_decimal.ensures
