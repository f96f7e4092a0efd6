-- The sums by kind of the records passed, while those from the place reached on are still to come. Assumes nothing.
use Prim.Native.Nat.{ℕ, zero, suc, ◌+◌, ◌≤◌, ◌<◌}
use borrow.Author.Tests.{eqb-true, eqb-false, leb-true}
use lib.Dec.{eqb, leb}
use lib.ListN.{length, get_or, set, length-set}
use lib.Seq.{get_or-set_same, get_or-set_other}
use mathlib.Core.Bool.{Bool, true, false, cond}
use mathlib.Core.List.{List, [], ◌∷◌}
use Rattle.std.specs.Prelude.{None, Some}
use mathlib.Core.Path.{◌≡◌, refl, sym, ap, ◌∙◌}
use native.Mathlib.Omega.{arith}
use Rattle.layout.specs.Layout.{header_size}
use Rattle.layout.specs.Fields.{kind_at, end_at}
use Rattle.record.proofs.Valid.{record_steps}
use Rattle.record.specs.Record.{plausible, next_at}
use Rattle.record.specs.declared.RecordHeader.{RecordHeader}
use Rattle.rows.specs.Rows.{payload_at, rows_at}
use Rattle.rows.specs.Frames.{frames_from}
use Rattle.paging.proofs.Counting.{rows_length, rows_most}
use Rattle.steps.proofs.Headers.{Header, frames_of as frames_there, payload_length}
use Rattle.seam.proofs.Walks.{stopped, goes_on_lem}
use Rattle.zlf.specs.Totals.{adding, total_of, records_of, frames_of, count_of, nothing}
use Rattle.zlf.specs.declared.info.Count.{Count}

-- a kind is one of five
below_by : (x : ℕ) (b : Bool) → leb x 4 ≡ b → cond b x 0 < 5
below_by x true e = omega (arith, leb-true x 4 e)
below_by x false e = omega arith

module _ (kinds s : List ℕ) (at : ℕ) (h : RecordHeader) (y : Header kinds s at h) where
  pub kind_below : h.kind < 5
  kind_below = let end = end_at s at in rw y.kind (below_by (get_or kinds end 0) (leb (get_or kinds end 0) 4) refl)

  -- the frames of its payload are its rows
  pub rows_counted : (payload : List ℕ) → payload ≡ payload_at s at → (frames : ℕ) → frames ≡ length (frames_from h.kind h.is_outcome payload 0)
      → frames ≡ length (rows_at kinds s at)
  rows_counted payload p frames e = e ∙ ap length (frames_there kinds s at h y payload p 0) ∙ sym (rows_length kinds s at)

-- nothing is counted yet
pub zeros : (k : ℕ) → get_or (nothing ∷ nothing ∷ nothing ∷ nothing ∷ nothing ∷ []) k nothing ≡ nothing
zeros zero = refl
zeros (suc zero) = refl
zeros (suc (suc zero)) = refl
zeros (suc (suc (suc zero))) = refl
zeros (suc (suc (suc (suc zero)))) = refl
zeros (suc (suc (suc (suc (suc k))))) = refl

-- a record more, with its frames, as the code counts them
abbrev pub with_record : Count → Count
with_record c = record { records = c.records + 1; frames = c.frames }

abbrev pub with_frames : Count → ℕ → Count
with_frames c frames = record { records = c.records; frames = c.frames + frames }

abbrev pub raised : Count → ℕ → Count
raised c frames = with_frames (with_record c) frames

-- a record more of a kind
module _ (l : List Count) (i : ℕ) (h : i < length l) where
  pub read_back : (c : Count) → get_or (set l i c) i nothing ≡ c
  read_back c = get_or-set_same l i c nothing h

  added_by : (k frames : ℕ) (b : Bool) → eqb i k ≡ b → (c : Count) → c ≡ raised (get_or l i nothing) frames
      → (m : List Count) → m ≡ set l i (with_record (get_or l i nothing))
      → get_or (set m i c) k nothing ≡ cond b (raised (get_or l k nothing) frames) (get_or l k nothing)
  added_by k frames true e c c-is m m-is =
      let same : i ≡ k = eqb-true i k e in
      rw (sym same) (get_or-set_same m i c nothing (rw m-is (rw length-set h)) ∙ c-is)
  added_by k frames false e c c-is m m-is =
      let other = λ (q : k ≡ i). eqb-false i k e (sym q) in
      get_or-set_other m i k c nothing other ∙ rw m-is (get_or-set_other l i k (with_record (get_or l i nothing)) nothing other)

  pub added : (k frames : ℕ)
      → get_or (set (set l i (with_record (get_or l i nothing))) i (with_frames (get_or (set l i (with_record (get_or l i nothing))) i nothing) frames)) k nothing
      ≡ cond (eqb i k) (raised (get_or l k nothing) frames) (get_or l k nothing)
  added k frames = added_by k frames (eqb i k) refl _ (ap (λ (c : Count). with_frames c frames) (read_back (with_record (get_or l i nothing)))) _ refl

module _ (kinds s : List ℕ) (k : ℕ) where
  module _ (each : ℕ → ℕ) where
    total_stops : (at : ℕ) → next_at plausible kinds s at ≡ None → total_of kinds s k each at ≡ 0
    unfolding total_of
    total_stops at e = stopped (next_at plausible kinds s) (length s) (record_steps plausible kinds s) (λ (end : ℕ). 0) (adding kinds s k each) (length s) at e

    total_on : (at m : ℕ) → next_at plausible kinds s at ≡ Some m → total_of kinds s k each at ≡ cond (eqb (kind_at kinds s at) k) (each at) 0 + total_of kinds s k each m
    unfolding total_of
    total_on at m e = goes_on_lem (next_at plausible kinds s) (length s) (record_steps plausible kinds s) (λ (end : ℕ). 0) (adding kinds s k each) at m e

  -- a kind's sums: no more than the bytes passed, and with what comes from the place on the whole
  pub record Sums (count : Count) (at : ℕ) : Type 0 where
    pub records_few : count.records ≤ at
    pub frames_few : count.frames ≤ at
    pub records_are : records_of kinds s k header_size ≡ count.records + records_of kinds s k at
    pub frames_are : frames_of kinds s k header_size ≡ count.frames + frames_of kinds s k at

  pub none_counted : Sums nothing header_size
  none_counted = record { records_few = omega arith; frames_few = omega arith; records_are = omega arith; frames_are = omega arith }

  module _ (count : Count) (at : ℕ) (w : Sums count at) where
    -- no valid record comes
    pub complete : next_at plausible kinds s at ≡ None → count ≡ count_of kinds s k
    complete e =
        let no_record = total_stops (λ (place : ℕ). 1) at e in
        let no_row = total_stops (λ (place : ℕ). length (rows_at kinds s place)) at e in
        let records_is : count.records ≡ records_of kinds s k header_size = omega (arith, w.records_are) in
        let frames_is : count.frames ≡ frames_of kinds s k header_size = omega (arith, w.frames_are) in
        rw (sym records_is) (rw (sym frames_is) refl)

    -- a record more
    counted_by : (h : RecordHeader) → Header kinds s at h → (b : Bool) → eqb (kind_at kinds s at) k ≡ b
        → Sums (cond b (raised count (length (rows_at kinds s at))) count) h.next_offset
    counted_by h y true e =
        let one = total_on (λ (place : ℕ). 1) at h.next_offset y.next in
        let rows = total_on (λ (place : ℕ). length (rows_at kinds s place)) at h.next_offset y.next in
        record {
          records_few = omega (arith, w.records_few, y.next_is);
          frames_few = omega (arith, w.frames_few, y.next_is, rows_most kinds s at, payload_length kinds s at h y);
          records_are = omega (arith, w.records_are, rw e at one);
          frames_are = omega (arith, w.frames_are, rw e at rows);
        }
    counted_by h y false e =
        let one = total_on (λ (place : ℕ). 1) at h.next_offset y.next in
        let rows = total_on (λ (place : ℕ). length (rows_at kinds s place)) at h.next_offset y.next in
        record {
          records_few = omega (arith, w.records_few, y.next_is);
          frames_few = omega (arith, w.frames_few, y.next_is);
          records_are = omega (arith, w.records_are, rw e at one);
          frames_are = omega (arith, w.frames_are, rw e at rows);
        }

    pub counted : (h : RecordHeader) → Header kinds s at h → (frames : ℕ) → frames ≡ length (rows_at kinds s at)
        → (count' : Count) → count' ≡ cond (eqb h.kind k) (raised count frames) count → Sums count' h.next_offset
    counted h y frames frames_is count' is =
        rw is (rw frames_is (rw y.kind (counted_by h y (eqb (kind_at kinds s at) k) refl)))
