-- Texts that lines are made of: spaces, numbers at the right of a width, and rates. Assumes nothing.
use Prim.Native.Nat.{ℕ, zero, suc, ◌+◌, ◌-◌, ◌<◌}
use lib.IntN.{ℤ, pos, negsuc, nat_abs}
use lib.ListN.{length, take, drop, replicate}
use lib.Signed.{lt_z}
use mathlib.Core.List.{List, ◌++◌}
use mathlib.Core.Path.{◌≡◌, refl, ap, ◌∙◌}
use mir.Val.{bool_byte}
use native.Mathlib.Omega.{arith}
use borrow.Author.Tests.{le-ltb}
use Rattle.io.specs.Counts.{IsPrefixLen}
use Rattle.io.specs.Digits.{last_digits, IsDigitCount}
use Rattle.speed.specs.Chart.{row_for}
use Rattle.speed.specs.Speed.{speed_for}
use Rattle.text.proofs.Decimals.{decimal_is}
use Rattle.text.proofs.Puts.{joined, renamed}
use Rattle.text.specs.Put.{Puts}
use Rattle.text.specs.declared.Out.{Out}
use Rattle.text.specs.Texts.{space, decimal_text, signed_text}
use Rattle.show.specs.Person.{at_right, signs, rate_text, rates_text}

-- the digits that `io::decimal` gives are as many as the text has
pub digits_are : (n k : ℕ) (out : List ℕ) → IsPrefixLen k out → IsDigitCount 10 1 n k → take k out ≡ last_digits 10 k n → k ≡ length (decimal_text n)
digits_are n k out c f e = c.1 ∙ ap length (e ∙ decimal_is n k f)

-- spaces and then a text, at the right of a width
pub at_right_of : {text : List ℕ} {o₀ o₁ o₂ : Out} (width n : ℕ) → n ≡ width - length text
    → Puts (replicate n space) o₀ o₁ → Puts text o₁ o₂ → Puts (at_right width text) o₀ o₂
unfolding at_right
at_right_of {text} width n e p t = renamed (ap (λ (k : ℕ). replicate k space ++ text) e) (joined p t)

-- the same number by another name
pub same_right : {m n : ℕ} {o₀ o₁ : Out} (width : ℕ) → m ≡ n → Puts (at_right width (decimal_text m)) o₀ o₁ → Puts (at_right width (decimal_text n)) o₀ o₁
same_right width e p = renamed (ap (λ (k : ℕ). at_right width (decimal_text k)) e) p

pub same_signed : {y z : ℤ} {o₀ o₁ : Out} (width : ℕ) → y ≡ z → Puts (at_right width (signed_text y)) o₀ o₁ → Puts (at_right width (signed_text z)) o₀ o₁
same_signed width e p = renamed (ap (λ (x : ℤ). at_right width (signed_text x)) e) p

-- a sign and the digits are the bytes of the text
pub signed_long : (z : ℤ) → signs z + length (decimal_text (nat_abs z)) ≡ length (signed_text z)
unfolding signed_text
signed_long (pos m) = omega arith
signed_long (negsuc m) = omega arith

-- a sign has a byte, and none has none
pub sign_is : (z : ℤ) → bool_byte (lt_z z (pos 0)) ≡ signs z
sign_is (pos n) = simp (le-ltb n 0 (omega arith))
sign_is (negsuc n) = refl

-- the rates from a channel on are that of the channel and those after it
pub next_rate : (region i : ℕ) → i < 4 → rates_text (drop i (row_for region)) ≡ rate_text (speed_for i region) ++ rates_text (drop (i + 1) (row_for region))
unfolding rates_text
next_rate region zero h = refl
next_rate region (suc zero) h = refl
next_rate region (suc (suc zero)) h = refl
next_rate region (suc (suc (suc zero))) h = refl
next_rate region (suc (suc (suc (suc n)))) h = absurd (omega arith)
