-- The rows of a record, and of the records that a page takes: each takes 10 bytes or more, and its numbers are small. Assumes nothing.
use Prim.Native.Nat.{ℕ, zero, suc, ◌+◌, ◌-◌, ◌*◌, ◌≤◌, ◌<◌}
use lib.Dec.{ltb, eqb}
use lib.IntN.{ℤ, pos, negsuc, nat_abs, sub_ℕ, ◌-ℤ◌}
use lib.ListN.{length, drop, length-append, length-take}
use mathlib.Core.List.{List, [], ◌∷◌}
use Rattle.std.specs.Prelude.{Option, None, Some}
use mathlib.Core.Path.{◌≡◌}
use native.Mathlib.Omega.{arith}
use borrow.Author.Tests.{ltb-true}
use Rattle.choice.proofs.Choice.{by_choice}
use Rattle.ticks.specs.Ticks.{unix_millis}
use Rattle.layout.specs.Layout.{payload_part}
use Rattle.layout.specs.Fields.{ticks_at, length_at, kind_at, outgoing_at}
use Rattle.record.specs.Record.{plausible, next_at}
use Rattle.record.proofs.Steps.{Steps}
use Rattle.record.proofs.Valid.{record_steps, some_valid}
use Rattle.rows.specs.Frames.{Placed}
use Rattle.rows.specs.Rows.{payload_at, frames_at, numbered, rows_at}
use Rattle.rows.specs.declared.Row.{Row}
use Rattle.seam.proofs.Walks.{by_records}
use Rattle.steps.specs.Step.{latest, gap_of}
use Rattle.steps.proofs.Tests.{time_most}
use Rattle.paging.specs.Page.{gapped, Taken, none_taken, with_record, taken}
use Rattle.paging.proofs.Counting.{rows_length}
use Rattle.paging.proofs.Pages.{taken_stops, taken_on}
use Rattle.listing_laws.proofs.Each.{Each, each_append}
use Rattle.listing_laws.proofs.Texts.{most, Small}
use Rattle.listing_laws.proofs.Frames.{Costly, tenth, frames_cost}

-- a row whose gap is still to be set
pub record Plain (r : Row) : Type 0 where
  pub «record» : r.«record» < most
  pub position : r.position < most
  pub millis : nat_abs r.millis ≤ latest
  pub region : r.region < most
  pub channel : r.channel < most
  pub speed : r.speed < most
  pub rssi : nat_abs r.rssi < most
  pub beams : r.beam_count < most
  pub mpdu : r.mpdu < most
  pub mpdu_len : r.mpdu_len < most

module _ (s : List ℕ) (at size : ℕ) (near : at + payload_part + size ≤ 7932) (time : nat_abs (unix_millis (ticks_at s at)) ≤ latest) where
  numbered_plain : (position from : ℕ) (fs : List Placed) → position + length fs ≤ 7932 → Costly size from fs → Each Plain (numbered s at position fs)
  unfolding numbered Costly
  numbered_plain position from [] h k = tt
  numbered_plain position from (f ∷ fs) h k =
      let fine = k.0 in (
        record {
          «record» = omega arith;
          position = omega arith;
          millis = time;
          region = omega (arith, fine.radio.region);
          channel = omega (arith, fine.radio.channel);
          speed = omega (arith, fine.radio.speed);
          rssi = omega (arith, fine.radio.rssi);
          beams = omega (arith, fine.radio.beams);
          mpdu = omega (arith, fine.mpdu);
          mpdu_len = omega (arith, fine.mpdu_len);
        },
        numbered_plain (position + 1) f.next fs (omega arith) k.1.1.1,
      )

module _ (kinds s : List ℕ) (short : length s ≤ 7932) where
  abbrev next : ℕ → Option ℕ
  next = next_at plausible kinds s

  abbrev rows : ℕ → List Row
  rows = rows_at kinds s

  abbrev n : ℕ
  n = length s

  steps : Steps next n
  steps = record_steps plausible kinds s

  record_rows : (at m : ℕ) → next at ≡ Some m → (10 * length (rows at) + at ≤ m) × Each Plain (rows at)
  unfolding rows_at
  record_rows at m e =
      let p = payload_at s at in
      let cost = frames_cost (outgoing_at s at) p (kind_at kinds s at) in
      let few = tenth (length p) 0 (frames_at kinds s at 0) (omega arith) cost in
      let end = (some_valid plausible kinds s at m e).1 in
      let size = length-take (length_at s at) (drop (at + payload_part) s) in (
        omega (arith, few, end, size, rows_length kinds s at),
        numbered_plain s at (length p) (omega (arith, end, size, steps.inside at m e)) (time_most plausible kinds s (omega arith) (omega arith) at m e) 0 0 (frames_at kinds s at 0) (omega (arith, few, end, size, steps.inside at m e)) cost,
      )

  -- what is taken from a place on
  pub record Took (at : ℕ) (t : Taken) : Type 0 where
    pub few : 10 * length t.rows + at ≤ t.end
    pub inside : at ≤ n → t.end ≤ n
    pub plain : Each Plain t.rows

  none_took : (at : ℕ) → Took at (none_taken at)
  none_took at = record { few = omega arith; inside = λ h. h; plain = tt }

  pub took : (at count : ℕ) → Took at (taken next rows n at count)
  took =
      by_records next n steps (λ (at : ℕ). (count : ℕ) → Took at (taken next rows n at count))
      (λ at e count. rw (taken_stops next rows n steps at count e) (none_took at))
      (λ at m e after count.
      rw (taken_on next rows n steps at m count e)
      (by_choice (Took at) (eqb count 0)
      {a = none_taken at} {b = with_record (rows at) (taken next rows n m (count - length (rows at)))}
      (λ x. none_took at)
      (λ x.
      let t = taken next rows n m (count - length (rows at)) in
      let later : Took m t = after (count - length (rows at)) in
      let here = record_rows at m e in
      record {
        few = omega (arith, here.0, later.few, length-append (rows at) t.rows);
        inside = λ h. later.inside (steps.inside at m e);
        plain = each_append Plain (rows at) t.rows here.1 later.plain;
      })))

-- a difference is no further from 0 than both together
sub_small : (a b : ℕ) → nat_abs (sub_ℕ a b) ≤ a + b
sub_small a b =
    by_choice (λ (z : ℤ). nat_abs z ≤ a + b) (ltb a b) {a = negsuc (b - suc a)} {b = pos (a - b)}
    (λ e. omega (arith, ltb-true a b e))
    (λ e. omega arith)

apart : (y z : ℤ) → nat_abs (y -ℤ z) ≤ nat_abs y + nat_abs z
apart (pos a) (pos b) = pos_by a b
  where
    pos_by : (a b : ℕ) → nat_abs (pos a -ℤ pos b) ≤ a + b
    pos_by a zero = omega arith
    pos_by a (suc b) = sub_small a (suc b)
apart (pos a) (negsuc b) = omega arith
apart (negsuc a) (pos b) = neg_by a b
  where
    neg_by : (a b : ℕ) → nat_abs (negsuc a -ℤ pos b) ≤ suc a + b
    neg_by a zero = omega (arith, sub_small 0 (suc a))
    neg_by a (suc b) = omega arith
apart (negsuc a) (negsuc b) = omega (arith, sub_small (suc b) (suc a))

-- a time before is a record's
Before : Option ℤ → Type 0
Before None = Unit
Before (Some z) = nat_abs z ≤ latest

gap_small : (before : Option ℤ) (time : ℤ) → Before before → nat_abs time ≤ latest → nat_abs (gap_of before time) < most
unfolding Before
gap_small None time b h = omega arith
gap_small (Some z) time b h = omega (arith, apart time z)

gapped_small : (before : Option ℤ) → Before before → (rows : List Row) → Each Plain rows → Each Small (gapped before rows)
unfolding gapped Before
gapped_small before b [] h = tt
gapped_small before b (r ∷ rows) h =
    let p = h.0 in (
      record {
        «record» = p.«record»;
        position = p.position;
        millis = omega (arith, p.millis);
        gap = gap_small before r.millis b p.millis;
        region = p.region;
        channel = p.channel;
        speed = p.speed;
        rssi = p.rssi;
        beams = p.beams;
        mpdu = p.mpdu;
        mpdu_len = p.mpdu_len;
      },
      gapped_small (Some r.millis) p.millis rows h.1,
    )

-- with no time before
pub gapped_none : (rows : List Row) → Each Plain rows → Each Small (gapped None rows)
unfolding Before
gapped_none = gapped_small None tt
