-- How often a wake-up beam repeats.
use Rattle.std.specs.Prelude.{ℕ, zero, suc, ◌+◌, ◌-◌, min, eqb, get_or, take, drop, Bool, true, false, ◌&&◌, cond, List, [], ◌∷◌}

-- whether the whole pattern fits and matches
unfoldable pub starts : List ℕ → List ℕ → Bool
starts [] rest = true
starts (x ∷ pattern) [] = false
starts (x ∷ pattern) (y ∷ rest) = eqb x y && starts pattern rest

-- the Rust looks only where a marker stands; a beam starts with one, so for a beam this is `starts` alone (`beam_count_plain` of
-- proofs/Marker.antt)
abbrev pub starts_marked : List ℕ → List ℕ → Bool
starts_marked pattern rest = eqb (get_or rest 0 0) 0x55 && starts pattern rest

-- 01: "an offset where the whole pattern fits and matches counts one and jumps past it, any other offset advances by one". `matches` is the
-- test of what stands from an offset on, `size` the pattern's length, `left` how many bytes of the last match are still to be passed
unfoldable pub repeats : (List ℕ → Bool) → ℕ → ℕ → List ℕ → ℕ
repeats matches size left [] = 0
repeats matches size (suc left) (x ∷ rest) = repeats matches size left rest
repeats matches size zero (x ∷ rest) =
    cond (matches (x ∷ rest)) (1 + repeats matches size (size - 1) rest) (repeats matches size 0 rest)

-- 01: "counts repeats, to 65,535 at most: pattern length 4 for speed 3, else 3, cut to the data. From there, an offset .."; a pattern of no
-- bytes is one beam
unfoldable pub beam_count : ℕ → List ℕ → ℕ
beam_count size bytes =
    cond (eqb size 0) 1 (min 65535 (1 + repeats (starts_marked (take size bytes)) size 0 (drop size bytes)))
