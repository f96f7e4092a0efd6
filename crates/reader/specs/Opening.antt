-- Opening a trace in sequence: the refusals in their order, and what an opened trace gives.
use Rattle.std.specs.Prelude.{ℕ, ltb, eqb, length, take, Bool, cond, List, Result, Ok, Err}
use Rattle.layout.specs.Layout.{le_at, header_size, trace_limit}
use Rattle.checksum.specs.Sum.{sum_of}
use Rattle.reader.specs.declared.Opened.{Opened}
use Rattle.reader.specs.declared.OpenError.{OpenError}
use Rattle.reader.specs.declared.OpenError.TheVariants.{TraceTooLong, TraceTooShort, InvalidHeaderChecksum, InvalidZlfVersion}

-- 01: "over bytes 0 to 2,045, stored low byte first at 2,046"
abbrev pub sum_part : ℕ
sum_part = 2046

abbrev pub sum_right : List ℕ → Bool
sum_right s = eqb (sum_of (take sum_part s)) (le_at 2 s sum_part)

-- 01: "then the version (first four bytes)"
abbrev pub version_of : List ℕ → ℕ
version_of s = le_at 4 s 0

-- what opening answers: the refusal's number or 0, the version found, and the reader's place and count; what is not said is 0
pub record OpeningTold : Type 0 where
  pub refusal : ℕ
  pub version : ℕ
  pub place : ℕ
  pub count : ℕ

abbrev pub opening_told : ℕ → ℕ → ℕ → ℕ → OpeningTold
opening_told n v p k = record { refusal = n; version = v; place = p; count = k }

-- 01: "Opening in sequence checks the header sum ..; then the version"; "opening gives 2,048 and 0". The refusals, by number: 1 "the trace is over
-- 1,073,741,824 bytes", 2 "under 2,048 bytes", 3 "wrong sum", 4 "another version (returned)"
unfoldable pub opened : List ℕ → ℕ → OpeningTold
opened s expected =
    cond (ltb trace_limit (length s)) (opening_told 1 0 0 0)
    (cond (ltb (length s) header_size) (opening_told 2 0 0 0)
    (cond (sum_right s)
    (cond (eqb (version_of s) expected) (opening_told 0 (version_of s) header_size 0) (opening_told 4 (version_of s) 0 0))
    (opening_told 3 0 0 0)))

-- a refusal's number, as 01 has it
abbrev pub open_refusal : OpenError → ℕ
open_refusal TraceTooLong = 1
open_refusal TraceTooShort = 2
open_refusal InvalidHeaderChecksum = 3
open_refusal (InvalidZlfVersion v) = 4

-- each answer in the paper's numbers
abbrev pub told_opening : Result Opened OpenError → OpeningTold
told_opening (Ok o) = opening_told 0 o.version o.reader.place o.reader.count
told_opening (Err TraceTooLong) = opening_told 1 0 0 0
told_opening (Err TraceTooShort) = opening_told 2 0 0 0
told_opening (Err InvalidHeaderChecksum) = opening_told 3 0 0 0
told_opening (Err (InvalidZlfVersion v)) = opening_told 4 v 0 0
