-- The bit rates of Z-Wave, by channel and region: ITU-T G.9959, tables A.1 and A.2, as pti/speed.rs carries them.
use Rattle.std.specs.Prelude.{ℕ, ◌+◌, ◌*◌, eqb, Bool, false, ◌||◌, cond, List, [], ◌∷◌, ◌++◌}

-- a channel and a region as one number
abbrev pub key_of : ℕ → ℕ → ℕ
key_of channel region = channel * 256 + region

-- one channel in each of the regions
abbrev pub on : ℕ → List ℕ → List ℕ
on channel [] = []
on channel (region ∷ rest) = key_of channel region ∷ on channel rest

-- the regions with three rates, one to a channel: EU, US, Australia and New Zealand, Hong Kong, Malaysia, India, Russia, Israel,
-- China, and the United States and the European Union with Long Range 1 and 2
abbrev pub three_rates : List ℕ
three_rates = 1 ∷ 2 ∷ 3 ∷ 4 ∷ 5 ∷ 6 ∷ 8 ∷ 9 ∷ 11 ∷ 12 ∷ 13 ∷ 15 ∷ 16 ∷ []

-- the regions with one rate on three channels: Japan, Korea
abbrev pub one_rate : List ℕ
one_rate = 7 ∷ 10 ∷ []

-- the regions with Long Range beside the three rates, on channel 3, and with Long Range alone, on channels 0 and 1
abbrev pub long_beside : List ℕ
long_beside = 12 ∷ 13 ∷ 15 ∷ 16 ∷ []

abbrev pub long_alone : List ℕ
long_alone = 14 ∷ 17 ∷ []

-- the four lists
abbrev pub at9600 : List ℕ
at9600 = on 2 three_rates

abbrev pub at40_k : List ℕ
at40_k = on 1 three_rates

abbrev pub at100_k : List ℕ
at100_k = on 0 three_rates ++ on 0 one_rate ++ on 1 one_rate ++ on 2 one_rate

abbrev pub at_long_range : List ℕ
at_long_range = on 3 long_beside ++ on 0 long_alone ++ on 1 long_alone

-- whether a number is in a list
unfoldable pub among : ℕ → List ℕ → Bool
among k [] = false
among k (x ∷ xs) = eqb x k || among k xs

-- 01: "searched in the order 9.6k, 40k, 100k, Long Range; a pair in none gives 0"
unfoldable pub speed_for : ℕ → ℕ → ℕ
speed_for channel region =
    cond (among (key_of channel region) at9600) 0
    (cond (among (key_of channel region) at40_k) 1
    (cond (among (key_of channel region) at100_k) 2
    (cond (among (key_of channel region) at_long_range) 3 0)))
