-- `show::put_right_signed` meets its contract. Assumes nothing.
use Prim.Native.Nat.{ℕ, ◌-◌}
use lib.IntN.{ℤ, nat_abs}
use lib.ListN.{length}
use mathlib.Core.Path.{◌≡◌, ap, ◌∙◌}
use mir.Syntax.{w64}
use mir.Val.{to_z, of_z}
use mir.ValLaws.{to_z-of_z}
use native.Mathlib.Omega.{arith}
use Rattle.text.specs.Texts.{decimal_text, signed_text}
use Rattle.show.specs.Person.{signs}
use Rattle.show.proofs.Texts.{at_right_of, same_signed, signed_long, sign_is}
use Rattle.show.proofs.put_right_signed.Goals as goal

pub returns : goal.returns
returns c =
    let a = c.args in
    let z : ℤ = to_z w64 (of_z w64 a.z) in
    let sign : c.from-sign.result ≡ signs z = c.from-sign.ensures ∙ sign_is z in
    let digits : c.digits.result ≡ length (decimal_text (nat_abs z)) = c.digits.ensures ∙ ap (λ (n : ℕ). length (decimal_text n)) c.magnitude.ensures in
    let spaces : c.saturating_sub-2.result ≡ a.width - length (signed_text z) = omega (arith, signed_long z) in
    same_signed a.width (to_z-of_z w64 a.z c.ranges.z) (at_right_of a.width _ spaces c.put_spaces.ensures c.put_signed.ensures)
