-- Opening a trace as a cursor.
use Rattle.std.specs.Prelude.{ℕ, ltb, eqb, length, cond, List, Result, Ok, Err}
use Rattle.layout.specs.Layout.{le_at, header_size, trace_limit}
use Rattle.seam.specs.declared.OpenError.{OpenError}
use Rattle.seam.specs.declared.OpenError.TheVariants.{TraceTooLong, TraceTooShort, OtherVersion}

-- what opening answers: the refusal's number or 0, and the version found; what is not said is 0
pub record OpeningTold : Type 0 where
  pub refusal : ℕ
  pub version : ℕ

abbrev pub opening_told : ℕ → ℕ → OpeningTold
opening_told refusal version = record { refusal = refusal; version = version }

-- 01: "the version (first four bytes)"
abbrev pub version_of : List ℕ → ℕ
version_of s = le_at 4 s 0

-- 01: "A cursor's opening checks only the version". Refusals 1: "the trace is over 1,073,741,824 bytes", 2: "opening, under 2,048 bytes",
-- 4: "opening, another version (returned)"
unfoldable pub opening_of : List ℕ → ℕ → OpeningTold
opening_of s expected =
    cond (ltb trace_limit (length s)) (opening_told 1 0)
    (cond (ltb (length s) header_size) (opening_told 2 0)
    (cond (eqb (version_of s) expected) (opening_told 0 (version_of s)) (opening_told 4 (version_of s))))

-- the refusals' numbers
abbrev pub open_refusal : OpenError → ℕ
open_refusal TraceTooLong = 1
open_refusal TraceTooShort = 2
open_refusal (OtherVersion version) = 4

-- each answer in the paper's numbers
abbrev pub told_opening : Result ℕ OpenError → OpeningTold
told_opening (Ok version) = opening_told 0 version
told_opening (Err TraceTooLong) = opening_told 1 0
told_opening (Err TraceTooShort) = opening_told 2 0
told_opening (Err (OtherVersion version)) = opening_told 4 version
