-- Where the seeks answer what the plain one does: 02's premises, and weaker ones. Each is of a trace and of the place of its first record.
use Rattle.std.specs.Prelude.{ℕ, ◌≤◌, ℤ, ◌≤ℤ◌, true, ◌≡◌, Some}
use Rattle.std.specs.Int.Signed.{lt_z}
use Rattle.resync.specs.Boundary.{boundary}
use Rattle.seam.specs.Seam.{Unbroken}
use Rattle.span.specs.Met.{Trace, first_met}
use Rattle.plain.specs.Plain.{plain_from, Begins}

-- "a first record exists"
abbrev pub HasFirst : Trace → Type 0
HasFirst t = (first_met t).is_found ≡ true

-- "the trace is unbroken from it": so many valid records follow one another from there to the last byte
abbrev pub UnbrokenFrom : Trace → ℕ → Type 0
UnbrokenFrom t first = (records : ℕ) × Unbroken t.next t.size first records

-- "milliseconds never decrease": of two of those records, one where the other ends
abbrev pub NeverDecrease : Trace → ℕ → Type 0
NeverDecrease t first = (at after : ℕ) → Begins t first at → t.next at ≡ Some after → Begins t first after → t.millis at ≤ℤ t.millis after

-- "from it on every boundary is the start of one of those records"
abbrev pub NoOtherBoundary : Trace → ℕ → Type 0
NoOtherBoundary t first = (at : ℕ) → first ≤ at → boundary t.next t.size at ≡ true → Begins t first at

-- 02: "on these premises"
pub record Premises (t : Trace) : Type 0 where
  pub has_first : HasFirst t
  pub unbroken : UnbrokenFrom t (first_met t).offset
  pub in_order : NeverDecrease t (first_met t).offset
  pub no_other : NoOtherBoundary t (first_met t).offset

-- Weaker premises, of the one time that is sought. In place of "milliseconds never decrease": of two of those records, one where the other ends, the
-- former is earlier than the target where the latter is. A clock that went back before the target, or after it, does no harm
abbrev pub Parted : Trace → ℤ → ℕ → Type 0
Parted t target first =
    (at after : ℕ) → Begins t first at → t.next at ≡ Some after → Begins t first after
    → lt_z (t.millis after) target ≡ true → lt_z (t.millis at) target ≡ true

-- In place of "every boundary": every boundary that is earlier than the target. What looks like later records in a payload does no harm
abbrev pub NoEarlierBoundary : Trace → ℤ → ℕ → Type 0
NoEarlierBoundary t target first =
    (at : ℕ) → first ≤ at → boundary t.next t.size at ≡ true → lt_z (t.millis at) target ≡ true → Begins t first at

-- these are enough (`same_enough` of proofs/Same.antt)
pub record Enough (t : Trace) (target : ℤ) : Type 0 where
  pub has_first : HasFirst t
  pub unbroken : UnbrokenFrom t (first_met t).offset
  pub parted : Parted t target (first_met t).offset
  pub no_earlier : NoEarlierBoundary t target (first_met t).offset

-- In place of "the trace is unbroken from it": the record that the plain seek finds, if it finds one, is a boundary. Of the records before a
-- break only the last two are none (`three` and `breaks_off` of resync/proofs/Chain.antt)
abbrev pub AnswerIsBoundary : Trace → ℤ → ℕ → Type 0
AnswerIsBoundary t target first = (at : ℕ) → plain_from t target first ≡ Some at → boundary t.next t.size at ≡ true

-- with the others, it is the same as that the seeks agree (`exactly` of proofs/Same.antt)
pub record ButUnbroken (t : Trace) (target : ℤ) : Type 0 where
  pub has_first : HasFirst t
  pub parted : Parted t target (first_met t).offset
  pub no_other : NoOtherBoundary t (first_met t).offset
