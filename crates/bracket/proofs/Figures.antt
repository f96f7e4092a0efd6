-- Worked examples beside those that document 01 marks P, by computation. Assumes nothing.
use mathlib.Core.List.{[], ◌∷◌}
use mathlib.Core.Path.{◌≡◌, refl}
use Rattle.std.specs.Prelude.{Some}
use Rattle.bracket.specs.Bracket.{good, walk, bodies_from, bodies, next_record}

-- one step over 5B 03 00 02 5D
pub one_step : next_record (0x5B ∷ 0x03 ∷ 0x00 ∷ 0x02 ∷ 0x5D ∷ []) 0 ≡ Some (record { at = 3; len = 1; next = 5 })
unfolding next_record walk good
one_step = refl

-- L = 1 is passed over, L = 0 is bad
pub passed_over : bodies (0x5B ∷ 0x01 ∷ 0x5D ∷ 0x5B ∷ 0x02 ∷ 0x00 ∷ 0x5D ∷ []) ≡ record { at = 6; len = 0 } ∷ []
unfolding bodies_from walk good
passed_over = refl

pub bad_length : bodies (0x5B ∷ 0x00 ∷ 0x5B ∷ 0x02 ∷ 0x00 ∷ 0x5D ∷ []) ≡ []
unfolding bodies_from walk good
bad_length = refl
