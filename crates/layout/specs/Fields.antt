-- The fields of the record at a place of a trace, as every crate above reads them.
use Rattle.std.specs.Prelude.{ℕ, ◌+◌, ◌/◌, ◌%◌, eqb, get_or, Bool, List}
use Rattle.layout.specs.Layout.{le_at, kind_of, properties_part, length_part, payload_part}

-- 01: "A record is ticks (8), properties (1), length (4), payload, end byte (1), all little-endian"
abbrev pub ticks_at : List ℕ → ℕ → ℕ
ticks_at s at = le_at 8 s at

abbrev pub properties_at : List ℕ → ℕ → ℕ
properties_at s at = get_or s (at + properties_part) 0

-- the length's four bytes; a negative length reads here as 2 ^ 31 or more
abbrev pub length_at : List ℕ → ℕ → ℕ
length_at s at = le_at 4 s (at + length_part)

-- 01: "Bit 7 of properties marks an outgoing record, the rest is the session"
abbrev pub outgoing_at : List ℕ → ℕ → Bool
outgoing_at s at = eqb (properties_at s at / 128 % 2) 1

abbrev pub session_at : List ℕ → ℕ → ℕ
session_at s at = properties_at s at % 128

-- 01: "the end byte's offset (offset + 13 + length)"
abbrev pub end_place : List ℕ → ℕ → ℕ
end_place s at = at + payload_part + length_at s at

abbrev pub end_at : List ℕ → ℕ → ℕ
end_at s at = get_or s (end_place s at) 0

abbrev pub kind_at : List ℕ → List ℕ → ℕ → ℕ
kind_at kinds s at = kind_of kinds (end_at s at)

-- 01: "The next record is at offset + 14 + length"
abbrev pub next_place : List ℕ → ℕ → ℕ
next_place s at = at + 14 + length_at s at
