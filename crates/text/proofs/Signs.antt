-- A number's text by its sign, as the code tests it: of what stands in a local, kept as its bits; and a number of 8 bits in 64. Assumes
-- nothing.
use Prim.Native.Nat.{ℕ}
use lib.IntN.{ℤ, pos, negsuc, nat_abs}
use lib.Signed.{lt_z}
use mathlib.Core.Bool.{true, false}
use mathlib.Core.List.{[], ◌∷◌, ◌++◌}
use mathlib.Core.Path.{◌≡◌, refl, ◌∙◌}
use mir.Facts.{sfits_widen}
use mir.Syntax.{w8, w64}
use mir.Val.{to_z, of_z, SFits}
use mir.ValLaws.{to_z-of_z}
use native.Mathlib.Omega.{arith}
use Rattle.text.specs.Texts.{decimal_text, signed_text}
use Rattle.text.proofs.Negative.{clash}

negative : (z : ℤ) → lt_z z (pos 0) ≡ true → (0x2D ∷ []) ++ decimal_text (nat_abs z) ≡ signed_text z
unfolding signed_text
negative (pos n) h = clash n h
negative (negsuc n) h = refl

not_negative : (z : ℤ) → lt_z z (pos 0) ≡ false → decimal_text (nat_abs z) ≡ signed_text z
unfolding signed_text
not_negative (pos n) h = refl
not_negative (negsuc n) h = let z : true ≡ false = h in let e : ◌≡◌ {A = ℕ} 0 1 = cc in absurd (omega arith)

module _ (z : ℤ) (f : SFits w64 z) where
  pub below_zero : lt_z (to_z w64 (of_z w64 z)) (pos 0) ≡ true → (0x2D ∷ []) ++ decimal_text (nat_abs (to_z w64 (of_z w64 z))) ≡ signed_text z
  below_zero taken = rw (to_z-of_z w64 z f) (negative z (rw (to_z-of_z w64 z f) at taken))

  pub not_below_zero : lt_z (to_z w64 (of_z w64 z)) (pos 0) ≡ false → decimal_text (nat_abs (to_z w64 (of_z w64 z))) ≡ signed_text z
  not_below_zero left = rw (to_z-of_z w64 z f) (not_negative z (rw (to_z-of_z w64 z f) at left))

-- what 8 bits hold, 64 bits hold
pub widened : {z : ℤ} → SFits w8 z → SFits w64 (to_z w8 (of_z w8 z))
widened {z} f = rw (to_z-of_z w8 z f) (sfits_widen tt f)

pub still : {z : ℤ} → SFits w8 z → to_z w64 (of_z w64 (to_z w8 (of_z w8 z))) ≡ z
still {z} f = to_z-of_z w64 (to_z w8 (of_z w8 z)) (widened f) ∙ to_z-of_z w8 z f
