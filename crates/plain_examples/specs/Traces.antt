-- The example traces of request 10, byte by byte. `samples/premises` writes the same.
use Rattle.std.specs.Prelude.{ℕ, zero, suc, ◌+◌, ◌*◌, ◌/◌, ◌%◌, replicate, List, [], ◌∷◌, ◌++◌}

unfoldable pub zeros : ℕ → List ℕ
zeros n = replicate n 0

-- a number in so many bytes, low byte first
abbrev pub low : ℕ → ℕ → List ℕ
low zero n = []
low (suc k) n = n % 256 ∷ low k (n / 256)

-- the header: version 104, and zeros
unfoldable pub header : List ℕ
header = low 4 104 ++ zeros 2044

-- so many seconds after half past eight (UTC) on 1 May 2024, as .NET stores it
abbrev pub second : ℕ → ℕ
second n = 4611686018427387904 + 638501490000000000 + n * 10000000

-- the same in milliseconds since 1970
abbrev pub millisecond : ℕ → ℕ
millisecond n = 1714552200000 + n * 1000

-- what stands before a record's payload: ticks, properties, length
abbrev pub head : ℕ → ℕ → List ℕ
head ticks size = low 8 ticks ++ 0 ∷ low 4 size

-- a record whose payload is zeros, with the end byte of a Zniffer record
abbrev pub blank : ℕ → ℕ → List ℕ
blank ticks size = head ticks size ++ (zeros size ++ 0xFE ∷ [])

-- not unbroken: three records of 15 bytes, and one byte more
unfoldable pub tail : List ℕ
tail = header ++ (blank (second 0) 1 ++ (blank (second 1) 1 ++ (blank (second 2) 1 ++ 0 ∷ [])))

-- milliseconds that decrease: two records, the second a second earlier
unfoldable pub falling : List ℕ
falling = header ++ (blank (second 1) 40001 ++ blank (second 0) 40001)

-- another boundary: one record; in its payload another begins that is a second earlier and ends where it ends
unfoldable pub nested : List ℕ
nested = header ++ (head (second 1) 80016 ++ (zeros 40002 ++ blank (second 0) 40001))

-- no first record: both records lie past the first window
unfoldable pub distant : List ℕ
distant = header ++ (zeros 1048576 ++ (blank (second 0) 1 ++ blank (second 1) 1))

-- all premises: three records of the largest size, 1,048,590 bytes, each more than a window
unfoldable pub large : List ℕ
large = header ++ (blank (second 0) 1048576 ++ (blank (second 1) 1048576 ++ blank (second 2) 1048576))
