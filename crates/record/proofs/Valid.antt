-- What holds of a valid record: it ends inside the trace, the next place is further on, and its time is one of the plausible ones. Assumes nothing.
use Prim.Native.Nat.{ℕ, ◌+◌, ◌-◌, ◌/◌, ◌^◌, ◌≤◌, ◌<◌}
use borrow.Author.Tests.{leb-true, ltb-true, le-leb, lt-leb}
use lib.Dec.{leb}
use lib.IntN.{pos}
use lib.ListN.{length}
use mathlib.Core.Bool.{Bool, true, false, cond}
use mathlib.Core.List.{List}
use Rattle.std.specs.Prelude.{None, Some}
use mathlib.Core.Path.{◌≡◌, refl}
use native.Mathlib.Omega.{arith}
use Rattle.ticks.specs.Ticks.{new_year, cleared, unix_millis, epoch, per_millisecond}
use Rattle.record.proofs.Steps.{Steps}
use Rattle.record.proofs.Ways.{holds}
use Rattle.choice.proofs.Choice.{left_true, right_true}
use Rattle.record.specs.Record.{Limits, plausible, length_in, valid, next_at}
use Rattle.layout.specs.Fields.{ticks_at, length_at, end_place, next_place}

module _ (limits : Limits) (kinds s : List ℕ) (at : ℕ) where
  -- at + 15 ≤ next, and next ≤ length
  pub valid_grows : valid limits kinds s at ≡ true → at + 15 ≤ next_place s at
  valid_grows v =
      let some_bytes : 1 ≤ length_at s at = leb-true 1 (length_at s at) (left_true (leb 1 (length_at s at)) (leb (length_at s at) 1048576) (holds limits kinds s at 2 v)) in
      omega arith

  pub valid_inside : valid limits kinds s at ≡ true → next_place s at ≤ length s
  valid_inside v =
      let end : end_place s at < length s = ltb-true (end_place s at) (length s) (holds limits kinds s at 3 v) in
      omega arith

  some_by : (v : Bool) (m : ℕ) → cond v (Some (next_place s at)) None ≡ Some m → (v ≡ true) × (next_place s at ≡ m)
  some_by true m e = (refl, cc)
  some_by false m e = absurd (let z : ◌≡◌ {A = ℕ} 0 1 = cc in omega arith)

  -- the record test gives a place exactly at a valid record, and it is that of the next
  pub some_valid : (m : ℕ) → next_at limits kinds s at ≡ Some m → (valid limits kinds s at ≡ true) × (next_place s at ≡ m)
  unfolding next_at
  some_valid m e = some_by (valid limits kinds s at) m e

  pub valid_some : valid limits kinds s at ≡ true → next_at limits kinds s at ≡ Some (next_place s at)
  unfolding next_at
  valid_some v = rw v

  pub invalid_none : valid limits kinds s at ≡ false → next_at limits kinds s at ≡ None
  unfolding next_at
  invalid_none v = rw v

  -- the time in milliseconds, where the limits lie within 01's
  pub valid_time :
      630822816000000000 ≤ limits.low → limits.high ≤ 662479488000000000 → valid limits kinds s at ≡ true
      → (k : ℕ) × ((unix_millis (ticks_at s at) ≡ pos k) × ((946684800000 ≤ k) × (k ≤ 4112352000000)))
  valid_time low high v =
      let t : ℕ = cleared (ticks_at s at) in
      let from : limits.low ≤ t = leb-true limits.low t (left_true (leb limits.low t) (leb t limits.high) (holds limits kinds s at 1 v)) in
      let to : t ≤ limits.high = leb-true t limits.high (right_true (leb limits.low t) (leb t limits.high) (holds limits kinds s at 1 v)) in
      ((t - epoch) / per_millisecond, (rw (le-leb epoch t (omega arith)), (omega arith, omega arith)))

-- a negative length, which reads as 2 ^ 31 or more, is none of the plausible ones
pub negative_length : (n : ℕ) → 2 ^ 31 ≤ n → length_in n ≡ false
negative_length n h = simp (le-leb 1 n (omega arith), lt-leb n 1048576 (omega arith))

-- the lower limit is midnight on 1 January 2000
pub since_2000 : plausible.low ≡ new_year 2000
since_2000 = refl

pub record_steps : (limits : Limits) (kinds s : List ℕ) → Steps (next_at limits kinds s) (length s)
record_steps limits kinds s =
    record {
      grows = λ at m e. rw (some_valid limits kinds s at m e).1 at (valid_grows limits kinds s at (some_valid limits kinds s at m e).0);
      inside = λ at m e. rw (some_valid limits kinds s at m e).1 at (valid_inside limits kinds s at (some_valid limits kinds s at m e).0);
    }
