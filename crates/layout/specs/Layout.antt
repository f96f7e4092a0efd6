-- The layout that every crate above reads by: numbers at a place of a trace, the kind of an end byte, and the layout's fixed numbers.
use Rattle.std.specs.Prelude.{ℕ, zero, suc, ◌+◌, ◌*◌, ◌^◌, leb, get_or, cond, List}

-- 01: "all little-endian": the number of the n bytes at a place, low byte first, so that byte k counts 256 ^ k; a byte past the end reads as 0
unfoldable pub le_at : ℕ → List ℕ → ℕ → ℕ
le_at zero s at = 0
le_at (suc n) s at = le_at n s at + 256 ^ n * get_or s (at + n) 0

-- 01: "a kind table of exactly 256 entries (0 unknown, 1 Pti, 2 PtiDiagnostic, 3 Zniffer, 4 another known type; an entry above 4 reads as 0)"
abbrev pub kind_of : List ℕ → ℕ → ℕ
kind_of kinds end = cond (leb (get_or kinds end 0) 4) (get_or kinds end 0) 0

-- 01: the header is 2,048 bytes, and the first record is at 2,048
abbrev pub header_size : ℕ
header_size = 2048

-- 01, refusal 1: "the trace is over 1,073,741,824 bytes"
abbrev pub trace_limit : ℕ
trace_limit = 1073741824

-- 01: "ticks (8), properties (1), length (4), payload, end byte (1)": where each part of a record begins, from the record's place
abbrev pub properties_part : ℕ
properties_part = 8

abbrev pub length_part : ℕ
length_part = 9

abbrev pub payload_part : ℕ
payload_part = 13
