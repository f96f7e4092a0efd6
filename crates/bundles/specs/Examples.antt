-- Small payloads for the laws on joined ones: what meets 02's premises, and for each premise what lacks it alone.
use Rattle.std.specs.Prelude.{ℕ, replicate, List, [], ◌∷◌, ◌++◌}

-- one bracket record, whose body is the byte 7
abbrev pub one : List ℕ
one = 0x5B ∷ 3 ∷ 0 ∷ 7 ∷ 0x5D ∷ []

-- a bracket record without a body (L = 1), and one with an empty body
abbrev pub bare : List ℕ
bare = 0x5B ∷ 1 ∷ 0x5D ∷ 0x5B ∷ 2 ∷ 0 ∷ 0x5D ∷ []

-- a bracket record in 4 bytes, which alone hold nothing
abbrev pub short : List ℕ
short = 0x5B ∷ 2 ∷ 0 ∷ 0x5D ∷ []

-- a bracket record cut short before its 0x5D
abbrev pub cut : List ℕ
cut = 0x5B ∷ 4 ∷ 0 ∷ 7 ∷ 8 ∷ []

-- a bad record at the end: its L is 0
abbrev pub bad : List ℕ
bad = 0x5B ∷ 1 ∷ 0x5D ∷ 0x5B ∷ 0 ∷ []

-- one more bracket record, which has no 0x5D where `one` has it
abbrev pub other : List ℕ
other = 0x5B ∷ 4 ∷ 0 ∷ 7 ∷ 7 ∷ 0x5D ∷ []

-- the longest bodies that a bracket record can have, of 253 bytes: markers alone, and a sent frame whose radio part is markers alone (version 2, region 1,
-- channel 1)
abbrev pub markers : List ℕ
markers = replicate 253 0x55

abbrev pub beam : List ℕ
beam = 2 ∷ (replicate 10 0 ++ (0xFC ∷ (replicate 236 0x55 ++ (0xFD ∷ 1 ∷ 1 ∷ 6 ∷ 0 ∷ []))))

-- a bracket record with that frame, of 257 bytes
abbrev pub framed : List ℕ
framed = 0x5B ∷ 255 ∷ 0 ∷ (beam ++ (0x5D ∷ []))

-- records of a trace with one such payload, and with two in one: ticks and properties of 0, the length, the payload, the end byte of a PTI record
abbrev pub single : List ℕ
single = replicate 9 0 ++ (1 ∷ 1 ∷ 0 ∷ 0 ∷ (framed ++ (0xF5 ∷ [])))

abbrev pub double : List ℕ
double = replicate 9 0 ++ (2 ∷ 2 ∷ 0 ∷ 0 ∷ (framed ++ (framed ++ (0xF5 ∷ []))))
