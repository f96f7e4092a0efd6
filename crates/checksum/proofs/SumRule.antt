-- The closed rules are what the bits of the header sum's rule come to, at every register: each by one test at the powers of two. Assumes nothing.
use Prim.Native.Nat.{ℕ, zero, suc, ◌*◌, ◌/◌, ◌%◌, ◌^◌, ◌<◌}
use lib.Bits.{bit_xor, xor_zero_r}
use lib.Dec.{eqb}
use mathlib.Core.Bool.{cond}
use mathlib.Core.Path.{◌≡◌, refl, sym, ap, ap₂, ◌∙◌}
use native.Mathlib.Omega.{arith}
use Rattle.checksum.specs.Sum.{polynomial, start, sum_bit, sum_bits, sum_byte, sum_from}
use Rattle.checksum.specs.Division.{octets, sum_in, times}
use Rattle.checksum.proofs.Carryless.{Passes, nothing, itself, down, low, up, both, after, agree, together}

-- what the bit that falls out adds
abbrev fallen : ℕ → ℕ
fallen zero = 0
fallen (suc c) = polynomial

fallen_passes : (c d : ℕ) → c < 2 → d < 2 → fallen (bit_xor c d) ≡ bit_xor (fallen c) (fallen d)
fallen_passes zero d hc hd = refl
fallen_passes (suc zero) zero hc hd = refl
fallen_passes (suc zero) (suc zero) hc hd = refl
fallen_passes (suc zero) (suc (suc d)) hc hd = absurd (omega arith)
fallen_passes (suc (suc c)) d hc hd = absurd (omega arith)

by_fallen : (m c : ℕ) → c < 2 → cond (eqb c 1) (bit_xor m polynomial) m ≡ bit_xor m (fallen c)
by_fallen m zero h = sym (xor_zero_r m)
by_fallen m (suc zero) h = refl
by_fallen m (suc (suc c)) h = absurd (omega arith)

bit_is : (sum : ℕ) → sum_bit sum ≡ bit_xor (sum * 2 ^ 1 % 2 ^ 16) (fallen (sum / 2 ^ 15 % 2 ^ 1))
unfolding sum_bit
bit_is sum = by_fallen (sum * 2 ^ 1 % 2 ^ 16) (sum / 2 ^ 15 % 2 ^ 1) (omega arith)

fallen_of : Passes (λ a. fallen (a / 2 ^ 15 % 2 ^ 1))
fallen_of = record {
  through = λ a b.
      ap fallen ((after (low 1) (down 15)).through a b)
      ∙ fallen_passes (a / 2 ^ 15 % 2 ^ 1) (b / 2 ^ 15 % 2 ^ 1) (omega arith) (omega arith);
}

-- a bit, so many bits, a byte and so many bytes pass
bit_passes : Passes sum_bit
bit_passes = record {
  through = λ a b.
      bit_is (bit_xor a b)
      ∙ (both (after (low 16) (up 1)) fallen_of).through a b
      ∙ sym (ap₂ bit_xor (bit_is a) (bit_is b));
}

bits_pass : (n : ℕ) → Passes (sum_bits n)
unfolding sum_bits
bits_pass zero = itself
bits_pass (suc n) = after bit_passes (bits_pass n)

byte_passes : {f g : ℕ → ℕ} → Passes f → Passes g → Passes (λ z. sum_byte (f z) (g z))
unfolding sum_byte
byte_passes hf hg = after (bits_pass 8) (both hf (after (up 8) hg))

bytes_pass : (n : ℕ) {f g : ℕ → ℕ} → Passes f → Passes g → Passes (λ z. sum_from (f z) (octets n (g z)))
unfolding sum_from
bytes_pass zero hf hg = hf
bytes_pass (suc n) hf hg = bytes_pass n (byte_passes hf (after (low 8) (after (down (8 * n)) hg))) hg

-- the quotients: (1 + p^8) and (1 + p^4) for the fourth power, (1 + p^2) and (1 + p) more for the polynomial
abbrev by8 : ℕ → ℕ
by8 x = bit_xor x (x / 2 ^ 32)

abbrev by4 : ℕ → ℕ
by4 x = bit_xor (bit_xor x (x / 2 ^ 16)) (x / 2 ^ 44)

abbrev by2 : ℕ → ℕ
by2 x = bit_xor (bit_xor (bit_xor x (x / 2 ^ 8)) (x / 2 ^ 22)) (x / 2 ^ 32)

abbrev by1 : ℕ → ℕ
by1 x = bit_xor (bit_xor (bit_xor x (x / 2 ^ 4)) (x / 2 ^ 11)) (x / 2 ^ 16)

by8_passes : Passes by8
by8_passes = both itself (down 32)

by4_passes : Passes by4
by4_passes = both (both itself (down 16)) (down 44)

by2_passes : Passes by2
by2_passes = both (both (both itself (down 8)) (down 22)) (down 32)

by1_passes : Passes by1
by1_passes = both (both (both itself (down 4)) (down 11)) (down 16)

times_passes : (n : ℕ) → Passes (times n)
times_passes n = both (both (both (up (16 * n)) (up (12 * n))) (up (5 * n))) itself

pub fourth_divided : (register : ℕ) → register < 2 ^ 64 → times 4 (by4 (by8 register)) / 2 ^ 64 ≡ register
fourth_divided register h =
    agree (λ x. times 4 (by4 (by8 x)) / 2 ^ 64) (λ x. x)
    (after (down 64) (after (times_passes 4) (after by4_passes by8_passes))) itself 64 refl register h

pub divided : (fourth : ℕ) → fourth < 2 ^ 64 → times 1 (by1 (by2 fourth)) / 2 ^ 16 ≡ times 4 fourth / 2 ^ 64
divided fourth h =
    agree (λ x. times 1 (by1 (by2 x)) / 2 ^ 16) (λ x. times 4 x / 2 ^ 64)
    (after (down 16) (after (times_passes 1) (after by1_passes by2_passes))) (after (down 64) (times_passes 4)) 64 refl fourth h

-- the remainder
abbrev lower : ℕ → ℕ
lower q = bit_xor (bit_xor q (q * 2 ^ 5 % 2 ^ 64)) (q * 2 ^ 12 % 2 ^ 64) % 2 ^ 16

lower_passes : Passes lower
lower_passes = after (low 16) (both (both itself (after (low 64) (up 5))) (after (low 64) (up 12)))

pub remains : (q : ℕ) → q < 2 ^ 64 → lower q ≡ sum_in (times 1 q / 2 ^ 16)
unfolding sum_from sum_byte sum_bits sum_bit
remains q h =
    agree lower (λ x. sum_in (times 1 x / 2 ^ 16)) lower_passes (bytes_pass 8 nothing (after (down 16) (times_passes 1))) 64 refl q h

-- a byte
byte_rule : ℕ → ℕ → ℕ
byte_rule sum byte = bit_xor (sum * 2 ^ 8 % 2 ^ 16) (sum_in (bit_xor (sum / 2 ^ 8) byte))

pub whole_byte : (sum byte : ℕ) → sum < 2 ^ 16 → byte < 2 ^ 8
    → bit_xor (sum * 2 ^ 8 % 2 ^ 16) (sum_in (bit_xor (sum / 2 ^ 8) byte)) ≡ sum_byte sum byte
unfolding byte_rule sum_from sum_byte sum_bits sum_bit
whole_byte sum byte hs hb =
    together byte_rule sum_byte 16 8
    (both (after (low 16) (after (up 8) (down 8))) (bytes_pass 8 nothing (both (after (down 8) (down 8)) (low 8))))
    (byte_passes (down 8) (low 8)) refl sum byte hs hb

-- eight bytes
abbrev moved : ℕ → ℕ → ℕ
moved q word = bit_xor (bit_xor (bit_xor q (q * 2 ^ 20 % 2 ^ 64)) (q * 2 ^ 48 % 2 ^ 64)) word

by_fourth : ℕ → ℕ → ℕ
by_fourth q word = sum_in (moved q word)

by_bytes : ℕ → ℕ → ℕ
by_bytes q word = sum_from (sum_in (times 4 q / 2 ^ 64)) (octets 8 word)

pub whole_word : (q word : ℕ) → q < 2 ^ 64 → word < 2 ^ 64 → sum_in (moved q word) ≡ sum_from (sum_in (times 4 q / 2 ^ 64)) (octets 8 word)
unfolding by_fourth by_bytes sum_from sum_byte sum_bits sum_bit
whole_word q word hq hw =
    together by_fourth by_bytes 64 64
    (bytes_pass 8 nothing
    (both (both (both (down 64) (after (low 64) (after (up 20) (down 64)))) (after (low 64) (after (up 48) (down 64)))) (low 64)))
    (bytes_pass 8 (bytes_pass 8 nothing (after (down 64) (after (times_passes 4) (down 64)))) (low 64)) refl q word hq hw

-- the register with which the code begins
pub start_sum : sum_in 0xFFFF ≡ start
unfolding sum_from sum_byte sum_bits sum_bit
start_sum = refl
