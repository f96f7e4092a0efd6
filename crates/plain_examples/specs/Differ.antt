-- What it means that the answers differ.
use Rattle.std.specs.Prelude.{ℕ, ℤ, false, ◌≡◌, None, Some}
use Rattle.seek.specs.Seek.{seek_told, seek_of}
use Rattle.seek.specs.Step.{told_state, start_told, start_at, Driven}
use Rattle.seek.specs.declared.SeekState.{SeekState}
use Rattle.span.specs.Met.{Trace, first_met}
use Rattle.plain.specs.Plain.{plain_told, plain_of}

-- the plain seek finds the record at a place, and the whole one finds none, after so many halvings
pub record Differ (t : Trace) (target : ℤ) (place halvings : ℕ) : Type 0 where
  pub plain : plain_of t target ≡ plain_told (Some place)
  pub whole : seek_of t target ≡ seek_told halvings None

-- without a first record the plain seek and the whole one find none; the stepped one, driven from its start, finds the record at a place
pub record OnlyStepped (t : Trace) (target : ℤ) (place : ℕ) : Type 0 where
  pub no_first : (first_met t).is_found ≡ false
  pub plain : plain_of t target ≡ plain_told None
  pub whole : seek_of t target ≡ seek_told 0 None
  pub state : SeekState
  pub starts : start_at t ≡ start_told 0 (told_state state)
  pub halvings : ℕ
  pub stepped : Driven t target state (Some place) halvings
