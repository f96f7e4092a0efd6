-- Beams in the body of a bracket record: how many there are at most, and what the count would be without its ceiling.
use Rattle.std.specs.Prelude.{ℕ, ◌+◌, take, drop, List, Option, None, Some}
use Rattle.beam.specs.Beam.{starts_marked, repeats}
use Rattle.pti.specs.declared.PtiFrame.{PtiFrame}

-- the beams in some bytes without the ceiling of 65,535: the first bytes, and each match after them
unfoldable pub uncapped : ℕ → List ℕ → ℕ
uncapped size bytes = 1 + repeats (starts_marked (take size bytes)) size 0 (drop size bytes)

-- L is a byte, and a body has L - 2 bytes
abbrev pub body_most : ℕ
body_most = 253

-- beams of 3 bytes or more in so many
abbrev pub beams_most : ℕ
beams_most = 84

-- a frame's radio part has 17 bytes fewer: header part and tail have 12 and 5 at least
abbrev pub frame_beams_most : ℕ
frame_beams_most = 78

-- the beam count of what a body holds, 0 where it holds no frame
abbrev pub beams_told : Option PtiFrame → ℕ
beams_told (Some f) = f.beam_count
beams_told None = 0
