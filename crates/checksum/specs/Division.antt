-- What the closed rules of the code are about: the bytes of a number, and division by the polynomial. Private functions alone cite this; what
-- a header sum is stands in Sum.antt.
use Rattle.std.specs.Prelude.{ℕ, zero, suc, ◌*◌, ◌/◌, ◌%◌, ◌^◌, List, [], ◌∷◌}
use Rattle.std.specs.Int.Bits.{bit_xor}
use Rattle.checksum.specs.Sum.{sum_from}

-- the n bytes of a number, highest first
abbrev pub octets : ℕ → ℕ → List ℕ
octets zero number = []
octets (suc n) number = number / 2 ^ (8 * n) % 2 ^ 8 ∷ octets n number

-- the sum of a register's eight bytes, from 0
abbrev pub sum_in : ℕ → ℕ
sum_in register = sum_from 0 (octets 8 register)

-- a number times the n-th power of the polynomial x^16 + x^12 + x^5 + 1, without carries; n is 1, 2, 4, .., for a square doubles the exponents
abbrev pub times : ℕ → ℕ → ℕ
times n number = bit_xor (bit_xor (bit_xor (number * 2 ^ (16 * n)) (number * 2 ^ (12 * n))) (number * 2 ^ (5 * n))) number
