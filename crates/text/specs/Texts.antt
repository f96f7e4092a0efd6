-- Numbers and bytes as text, in ASCII.
use Rattle.std.specs.Prelude.{ℕ, zero, suc, ◌+◌, ◌/◌, ◌%◌, ltb, ℤ, pos, negsuc, cond, List, [], ◌∷◌, ◌++◌}

abbrev pub space : ℕ
space = 0x20

-- the digits of a number below 10 ^ turns, the most significant first, no zeros before them
unfoldable pub digits_of : ℕ → ℕ → List ℕ
digits_of zero n = []
digits_of (suc turns) n = cond (ltb n 10) ((48 + n) ∷ []) (digits_of turns (n / 10) ++ ((48 + n % 10) ∷ []))

-- a number in decimal. It has no more digits than it counts, so that these are turns enough (`decimal_is` of proofs/Decimals.antt)
unfoldable pub decimal_text : ℕ → List ℕ
decimal_text n = digits_of (suc n) n

-- `-` before a negative one
unfoldable pub signed_text : ℤ → List ℕ
signed_text (pos n) = decimal_text n
signed_text (negsuc n) = 0x2D ∷ decimal_text (suc n)

-- a digit below 16: `0` to `9`, then `A` to `F`
abbrev pub capital : ℕ → ℕ
capital d = cond (ltb d 10) (48 + d) (55 + d)

-- bytes in hexadecimal, two digits each
unfoldable pub hex_text : List ℕ → List ℕ
hex_text [] = []
hex_text (b ∷ bs) = capital (b / 16) ∷ capital (b % 16) ∷ hex_text bs
