-- The digits that `io::decimal` gives are the number's decimal text. Assumes nothing.
use Prim.Native.Nat.{ℕ, zero, suc, ◌+◌, ◌-◌, ◌/◌, ◌%◌, ◌^◌, ◌≤◌, ◌<◌}
use mathlib.Core.Path.{◌≡◌}
use native.Mathlib.Nat.{mod-eq_of_lt, mod-lt, pow-suc, div-lt_iff_lt-mul, le-div_iff_mul-le}
use native.Mathlib.Omega.{arith}
use borrow.Author.Tests.{lt-ltb, le-ltb}
use Rattle.io.specs.Digits.{hex_digit_ascii, last_digits, IsDigitCount}
use Rattle.text.specs.Texts.{digits_of, decimal_text}

-- a digit in base 10 is its glyph
digit : (d : ℕ) → d < 10 → hex_digit_ascii d ≡ 48 + d
digit d h = simp (lt-ltb d 10 h)

-- a number of two digits or more is at least the power of ten that the first counts
first_digit : (n k : ℕ) → IsDigitCount 10 1 n (suc (suc k)) → 10 ^ suc k ≤ n
first_digit n k f = let e : suc (suc k) - 1 ≡ suc k = omega arith in rw e at (f.2 (omega arith))

-- its digits but the last are those of its tenth
tenth : (n k : ℕ) → IsDigitCount 10 1 n (suc (suc k)) → IsDigitCount 10 1 (n / 10) (suc k)
tenth n k f = (
  omega arith,
  (div-lt_iff_lt-mul {k = 10} (omega arith)).1 (rw (pow-suc 10 (suc k)) at f.1),
  λ h. let e : suc k - 1 ≡ k = omega arith in rw e ((le-div_iff_mul-le {k = 10} (omega arith)).1 (rw (pow-suc 10 k) at (first_digit n k f))),
)

-- so many digits hold more than so many
grows : (k : ℕ) → k < 10 ^ k
grows zero = omega arith
grows (suc k) = rw (pow-suc 10 k) (omega (arith, grows k))

ten_or_more : (n k : ℕ) → IsDigitCount 10 1 n (suc (suc k)) → 10 ≤ n
ten_or_more n k f = omega (arith, first_digit n k f, pow-suc 10 k, grows k)

spelled : (turns n k : ℕ) → IsDigitCount 10 1 n (suc k) → k < turns → last_digits 10 (suc k) n ≡ digits_of turns n
unfolding digits_of
spelled zero n k f h = absurd (omega arith)
spelled (suc turns) n zero f h =
    let small : n < 10 = omega (arith, f.1) in
    simp (lt-ltb n 10 small, mod-eq_of_lt small)
spelled (suc turns) n (suc k) f h =
    simp (le-ltb n 10 (ten_or_more n k f), digit (n % 10) (mod-lt n (omega arith)), spelled turns (n / 10) k (tenth n k f) (omega arith))

enough : (n k : ℕ) → IsDigitCount 10 1 n (suc k) → k < suc n
enough n zero f = omega arith
enough n (suc k) f = omega (arith, first_digit n k f, grows (suc k))

-- the fewest digits that hold a number are its decimal text
pub decimal_is : (n k : ℕ) → IsDigitCount 10 1 n k → last_digits 10 k n ≡ decimal_text n
unfolding decimal_text
decimal_is n zero f = absurd (omega (arith, f.0))
decimal_is n (suc k) f = spelled (suc n) n k f (enough n k f)
