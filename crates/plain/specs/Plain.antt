-- The plain seek: a walk over the records from the first one.
use Rattle.std.specs.Prelude.{ℕ, ◌<◌, ltb, ℤ, Bool, true, false, cond, ◌≡◌, Option, None, Some, Result, Ok, Err}
use Rattle.std.specs.Int.Signed.{lt_z}
use Rattle.layout.specs.Layout.{trace_limit}
use Rattle.layout.specs.declared.TraceTooLong.{TraceTooLong}
use Rattle.seam.specs.Seam.{Unbroken}
use Rattle.seam.specs.Walk.{walk}
use Rattle.span.specs.Met.{Trace, first_met}

-- what the record at a place makes of what the later ones answer: itself, unless it is earlier than the target
abbrev pub or_later : Trace → ℤ → ℕ → Option ℕ → Option ℕ
or_later t target at later = cond (lt_z (t.millis at) target) later (Some at)

-- 02: "walks the records .., each where the last ended, up to the first invalid one, and returns the first at or after the time, or none"
unfoldable pub plain_from : Trace → ℤ → ℕ → Option ℕ
plain_from t target at = walk t.next (λ (end : ℕ). None) (or_later t target) t.size at

-- the same, said of the answer (`found_first` and `none_found` of proofs/Meaning.antt). One of the records from a place on begins here: so
-- many of them, each where the last ended, lead from that place to this one, and a valid record stands here
pub record Begins (t : Trace) (first at : ℕ) : Type 0 where
  pub before : ℕ
  pub leads : Unbroken t.next at first before
  pub end : ℕ
  pub valid : t.next at ≡ Some end

-- "the first at or after the time": one of the records, not earlier than the target, and all those before it are
pub record FirstAtOrAfter (t : Trace) (target : ℤ) (first at : ℕ) : Type 0 where
  pub begins : Begins t first at
  pub late : lt_z (t.millis at) target ≡ false
  pub none_before : (place : ℕ) → Begins t first place → place < at → lt_z (t.millis place) target ≡ true

-- "or none": all of them are earlier
abbrev pub AllEarlier : Trace → ℤ → ℕ → Type 0
AllEarlier t target first = (place : ℕ) → Begins t first place → lt_z (t.millis place) target ≡ true

-- what the plain seek answers: the refusal's number or 0, whether a record was found, and its place
pub record PlainTold : Type 0 where
  pub refusal : ℕ
  pub is_found : Bool
  pub offset : ℕ

abbrev pub plain_told : Option ℕ → PlainTold
plain_told None = record { refusal = 0; is_found = false; offset = 0 }
plain_told (Some offset) = record { refusal = 0; is_found = true; offset = offset }

abbrev pub no_plain : PlainTold
no_plain = record { refusal = 1; is_found = false; offset = 0 }

-- 02: "from the first one", which 01 finds by the search from 2,048; without one there is none. Refusal 1: "the trace is over
-- 1,073,741,824 bytes (all calls on a trace)"
unfoldable pub plain_of : Trace → ℤ → PlainTold
plain_of t target =
    cond (ltb trace_limit t.size) no_plain
    (cond (first_met t).is_found (plain_told (plain_from t target (first_met t).offset)) (plain_told None))

-- each answer in the paper's numbers
abbrev pub told_plain : Result (Option ℕ) TraceTooLong → PlainTold
told_plain (Ok found) = plain_told found
told_plain (Err refusal) = no_plain
