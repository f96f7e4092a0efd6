-- The ways out of the record test: one condition that does not hold makes the record absent, all six make it valid, and a valid record has all six. Assumes nothing.
use Prim.Native.Nat.{ℕ, zero, suc, ◌+◌, ◌-◌, ◌/◌, ◌%◌, ◌≤◌, ◌<◌}
use borrow.Author.Tests.{leb-true, le-leb, lt-leb, lt-ltb, le-ltb, eq-eqb, ne_eqb}
use lib.Dec.{leb, eqb}
use lib.IntN.{pos}
use lib.ListN.{length, get_or}
use mathlib.Core.Bool.{Bool, true, false, false≢true}
use mathlib.Core.List.{List, [], ◌∷◌}
use mathlib.Core.Path.{◌≡◌, refl, sym, ap, ◌∙◌}
use native.Mathlib.Decide.{dec_le}
use native.Mathlib.Omega.{arith}
use Rattle.choice.proofs.Choice.{left_true}
use Rattle.layout.specs.Layout.{kind_of, trace_limit}
use Rattle.ticks.specs.Ticks.{cleared, unix_millis, epoch, per_millisecond}
use Rattle.record.specs.Record.{Limits, plausible, ticks_in, length_in, opens_right, kind_known, conditions, all_hold, valid, no_record, fields_at, record_at, told_record}
use Rattle.std.specs.Prelude.{Option, None, Result, Ok, Err, IsErr}
use Rattle.layout.specs.declared.TraceTooLong.{TraceTooLong}
use Rattle.record.specs.declared.RecordHeader.{RecordHeader}
use Rattle.layout.specs.Fields.{ticks_at, properties_at, length_at, end_place, kind_at}

-- a list of tests: one that fails, and each of those that hold
one_fails : (tests : List Bool) (k : ℕ) → get_or tests k true ≡ false → all_hold tests ≡ false
one_fails [] k e = e
one_fails (b ∷ bs) zero e = rw e
one_fails (true ∷ bs) (suc k) e = one_fails bs k e
one_fails (false ∷ bs) (suc k) e = refl

each_holds : (tests : List Bool) (k : ℕ) → all_hold tests ≡ true → get_or tests k true ≡ true
each_holds [] k e = refl
each_holds (true ∷ bs) zero e = refl
each_holds (true ∷ bs) (suc k) e = each_holds bs k e
each_holds (false ∷ bs) k e = absurd (false≢true e)

-- the kind that the code has, of the end byte after a length that the code has
pub kind_is : (kinds s : List ℕ) (at n k : ℕ) → n ≡ length_at s at → k ≡ kind_of kinds (get_or s (at + 13 + n) 0) → k ≡ kind_at kinds s at
kind_is kinds s at n k n-is k-is = k-is ∙ ap (λ (x : ℕ). kind_of kinds (get_or s (at + 13 + x) 0)) n-is

module _ (limits : Limits) (kinds s : List ℕ) (at : ℕ) where
  -- the condition of number k, from 0, does not hold
  pub fails : (k : ℕ) → get_or (conditions limits kinds s at) k true ≡ false → valid limits kinds s at ≡ false
  unfolding valid
  fails k e = one_fails (conditions limits kinds s at) k e

  pub holds : (k : ℕ) → valid limits kinds s at ≡ true → get_or (conditions limits kinds s at) k true ≡ true
  unfolding valid
  holds k e = each_holds (conditions limits kinds s at) k e

  -- a trace over the limit is refused
  pub too_long : trace_limit < length s → (r : Result (Option RecordHeader) TraceTooLong) → IsErr r → told_record r ≡ record_at limits kinds s at
  unfolding record_at
  too_long over (Ok r) e = absurd (false≢true e)
  too_long over (Err e) is = simp (lt-ltb trace_limit (length s) over)

  pub absent : length s ≤ trace_limit → valid limits kinds s at ≡ false → no_record 0 ≡ record_at limits kinds s at
  unfolding record_at
  absent fits e = simp (le-ltb trace_limit (length s) fits, e)

  pub present : length s ≤ trace_limit → valid limits kinds s at ≡ true → fields_at kinds s at ≡ record_at limits kinds s at
  unfolding record_at
  present fits e = simp (le-ltb trace_limit (length s) fits, e)

  -- the exits of the code, by the facts that it has there
  pub no_head : length s < at + 13 → valid limits kinds s at ≡ false
  no_head h = fails 0 (lt-leb (at + 13) (length s) h)

  pub short : length s ≤ trace_limit → length s < at + 13 → no_record 0 ≡ record_at limits kinds s at
  short fits h = absent fits (no_head h)

  pub bad_ticks : length s ≤ trace_limit → (t : ℕ) → t ≡ cleared (ticks_at s at) → ticks_in limits t ≡ false → no_record 0 ≡ record_at limits kinds s at
  bad_ticks fits t e h = absent fits (fails 1 (ap (λ (n : ℕ). ticks_in limits n) (sym e) ∙ h))

  pub bad_length : length s ≤ trace_limit → (n : ℕ) → n ≡ length_at s at → length_in n ≡ false → no_record 0 ≡ record_at limits kinds s at
  bad_length fits n e h = absent fits (fails 2 (ap (λ (n : ℕ). length_in n) (sym e) ∙ h))

  pub no_end : length s ≤ trace_limit → (n : ℕ) → n ≡ length_at s at → length s ≤ at + 13 + n → no_record 0 ≡ record_at limits kinds s at
  no_end fits n e h = absent fits (fails 3 (le-ltb (end_place s at) (length s) (rw e at h)))

  pub no_kind : length s ≤ trace_limit → (k : ℕ) → k ≡ kind_at kinds s at → k ≡ 0 → no_record 0 ≡ record_at limits kinds s at
  no_kind fits k k-is e = absent fits (fails 4 (ap (λ (n : ℕ). kind_known n) (sym k-is ∙ e)))

  -- the same, as the check finds it
  pub kind_zero : length s ≤ trace_limit → kind_at kinds s at ≡ 0 → told_record (Ok None) ≡ record_at limits kinds s at
  kind_zero fits e = no_kind fits 0 (sym e) refl

  pub bad_opening :
      length s ≤ trace_limit → (k : ℕ) → k ≡ kind_at kinds s at → opens_right k (get_or s (at + 13) 0) ≡ false → no_record 0 ≡ record_at limits kinds s at
  bad_opening fits k e h = absent fits (fails 5 (ap (λ (n : ℕ). opens_right n (get_or s (at + 13) 0)) (sym e) ∙ h))

  -- the code's values of a record that meets all six
  pub six :
      at + 13 ≤ length s
      → (t : ℕ) → t ≡ cleared (ticks_at s at) → ticks_in limits t ≡ true
      → (n : ℕ) → n ≡ length_at s at → length_in n ≡ true → at + 13 + n < length s
      → (k : ℕ) → k ≡ kind_at kinds s at → (k ≡ 0 → ⊥) → opens_right k (get_or s (at + 13) 0) ≡ true
      → valid limits kinds s at ≡ true
  unfolding valid
  six head t t_is t_in n n-is n_in inside k k-is known opens =
      simp (
        le-leb (at + 13) (length s) head,
        rw t_is at t_in,
        rw n-is at n_in,
        lt-ltb (end_place s at) (length s) (rw n-is at inside),
        ne_eqb (kind_at kinds s at) 0 (rw k-is at known),
        rw k-is at opens,
      )

-- plausible ticks are not below the lower limit, and the milliseconds that they stand for
pub low_end : (t : ℕ) → ticks_in plausible t ≡ true → 630822816000000000 ≤ t
low_end t e = leb-true 630822816000000000 t (left_true (leb 630822816000000000 t) (leb t 662479488000000000) e)

pub millis : (raw : ℕ) → 630822816000000000 ≤ cleared raw → pos ((cleared raw - epoch) / per_millisecond) ≡ unix_millis raw
millis raw low = simp (le-leb epoch (cleared raw) (omega arith))

-- bit 7 of a byte
bit_by : (b : ℕ) → b < 256 → Dec (128 ≤ b) → leb 128 b ≡ eqb (b / 128 % 2) 1
bit_by b byte (yes h) = le-leb 128 b h ∙ sym (eq-eqb (b / 128 % 2) 1 (omega arith))
bit_by b byte (no h) = lt-leb 128 b (omega arith) ∙ sym (ne_eqb (b / 128 % 2) 1 (λ e. omega arith))

pub bit_seven : (b : ℕ) → b < 256 → leb 128 b ≡ eqb (b / 128 % 2) 1
bit_seven b byte = bit_by b byte (dec_le 128 b)

-- the code's answer is the definition's
pub answer :
    (kinds s : List ℕ) (at t n k m : ℕ) → t ≡ ticks_at s at → n ≡ length_at s at → k ≡ kind_at kinds s at → m ≡ cleared t
    → ticks_in plausible m ≡ true → properties_at s at < 256
    → record {
      refusal = 0;
      is_valid = true;
      offset = at;
      ticks = t;
      outgoing = leb 128 (properties_at s at);
      session = properties_at s at % 128;
      size = n;
      end_byte = get_or s (at + 13 + n) 0;
      kind = k;
      next = at + 13 + n + 1;
      millis = pos ((m - epoch) / per_millisecond);
    } ≡ fields_at kinds s at
answer kinds s at t n k m t_is n-is k-is m_is m_in byte =
    let next_is : at + 13 + length_at s at + 1 ≡ at + 14 + length_at s at = omega arith in
    let millis_is : pos ((m - epoch) / per_millisecond) ≡ unix_millis t = rw m_is (millis t (rw m_is at (low_end m m_in))) in
    simp (bit_seven (properties_at s at) byte, next_is, millis_is, t_is, n-is, k-is)
