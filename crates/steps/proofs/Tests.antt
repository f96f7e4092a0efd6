-- What the answer of the record test says of the trace's length and of the record's time. Assumes nothing.
use Prim.Native.Nat.{ℕ, ◌≤◌}
use borrow.Author.Tests.{ltb-false}
use lib.Dec.{ltb}
use lib.IntN.{pos, nat_abs}
use lib.ListN.{length}
use mathlib.Core.Bool.{Bool, true, false, cond, false≢true}
use mathlib.Core.List.{List}
use Rattle.std.specs.Prelude.{Some}
use mathlib.Core.Path.{◌≡◌, refl, sym, ap, ◌∙◌}
use native.Mathlib.Omega.{arith}
use Rattle.ticks.specs.Ticks.{unix_millis}
use Rattle.layout.specs.Layout.{trace_limit}
use Rattle.layout.specs.Fields.{ticks_at}
use Rattle.record.proofs.Valid.{some_valid, valid_time}
use Rattle.record.specs.Record.{Limits, valid, next_at, RecordTold, no_record, fields_at, record_at}
use Rattle.steps.specs.Step.{latest}

module _ (limits : Limits) (kinds s : List ℕ) where
  -- a valid record is told only of a trace that is not too long
  fits_by : (b : Bool) → ltb trace_limit (length s) ≡ b → (at : ℕ) (t : RecordTold) → t ≡ cond b (no_record 1) (cond (valid limits kinds s at) (fields_at kinds s at) (no_record 0)) → t.is_valid ≡ true
      → length s ≤ trace_limit
  fits_by true h at t is v = absurd (false≢true (sym (ap (λ (x : RecordTold). x.is_valid) is) ∙ v))
  fits_by false h at t is v = ltb-false trace_limit (length s) h

  pub told_fits : (at : ℕ) (t : RecordTold) → t ≡ record_at limits kinds s at → t.is_valid ≡ true → length s ≤ trace_limit
  unfolding record_at
  told_fits at t is v = fits_by (ltb trace_limit (length s)) refl at t is v

  -- the time of a record is that of a number
  module _ (low : 630822816000000000 ≤ limits.low) (high : limits.high ≤ 662479488000000000) where
    pub time_is : (at m : ℕ) → next_at limits kinds s at ≡ Some m → pos (nat_abs (unix_millis (ticks_at s at))) ≡ unix_millis (ticks_at s at)
    time_is at m e =
        let t = valid_time limits kinds s at low high (some_valid limits kinds s at m e).0 in
        rw t.1.0

    pub time_most : (at m : ℕ) → next_at limits kinds s at ≡ Some m → nat_abs (unix_millis (ticks_at s at)) ≤ latest
    time_most at m e =
        let t = valid_time limits kinds s at low high (some_valid limits kinds s at m e).0 in
        rw t.1.0 (omega arith)
