-- Counting the rows that a page takes: what the code has at each way out and after each record. Assumes nothing.
use Prim.Native.Nat.{ℕ, suc, ◌+◌, ◌-◌, ◌≤◌, ◌<◌}
use borrow.Author.Tests.{ne_eqb}
use lib.ListN.{length, length-append}
use mathlib.Core.List.{List, [], ◌∷◌}
use Rattle.std.specs.Prelude.{Option, None, Some}
use mathlib.Core.Path.{◌≡◌, refl, sym, ap, ◌∙◌}
use native.Mathlib.Omega.{arith}
use Rattle.layout.specs.Fields.{kind_at, outgoing_at}
use Rattle.record.proofs.Steps.{Steps}
use Rattle.rows.proofs.Walk.{at_most}
use Rattle.rows.specs.Frames.{Placed}
use Rattle.rows.specs.Rows.{frames_at, numbered, rows_at, payload_at}
use Rattle.rows.specs.declared.Row.{Row}
use Rattle.paging.specs.Page.{Taken, none_taken, with_record, taken}
use Rattle.paging.proofs.Pages.{taken_stops, taken_on}

numbered_length : (s : List ℕ) (at k : ℕ) (fs : List Placed) → length (numbered s at k fs) ≡ length fs
unfolding numbered
numbered_length s at k [] = refl
numbered_length s at k (f ∷ fs) = ap suc (numbered_length s at (k + 1) fs)

pub rows_length : (kinds s : List ℕ) (at : ℕ) → length (rows_at kinds s at) ≡ length (frames_at kinds s at 0)
unfolding rows_at
rows_length kinds s at = numbered_length s at 0 (frames_at kinds s at 0)

-- `total` rows are counted, and what is to be taken from a place on, with the rest of the count, makes up the whole
pub record Counts (next : ℕ → Option ℕ) (rows : ℕ → List Row) (n start count at total : ℕ) : Type 0 where
  pub number : length (taken next rows n start count).rows ≡ total + length (taken next rows n at (count - total)).rows
  pub end : (taken next rows n start count).end ≡ (taken next rows n at (count - total)).end

module _ (next : ℕ → Option ℕ) (rows : ℕ → List Row) (n : ℕ) (steps : Steps next n) (start count : ℕ) where
  pub begins : Counts next rows n start count start 0
  begins = let all : count - 0 ≡ count = omega arith in record { number = rw all (omega arith); end = rw all }

  pub wanted_none : (at : ℕ) (o : Option ℕ) → next at ≡ o → taken next rows n at 0 ≡ none_taken at
  wanted_none at None e = taken_stops next rows n steps at 0 e
  wanted_none at (Some m) e = taken_on next rows n steps at m 0 e

  module _ (at total : ℕ) (c : Counts next rows n start count at total) where
    ended : taken next rows n at (count - total) ≡ none_taken at → (total ≡ length (taken next rows n start count).rows) × (at ≡ (taken next rows n start count).end)
    ended e = (omega (arith, c.number, ap (λ (t : Taken). length t.rows) e), sym (c.end ∙ ap (λ (t : Taken). t.end) e))

    -- no valid record comes
    pub stops : next at ≡ None → (total ≡ length (taken next rows n start count).rows) × (at ≡ (taken next rows n start count).end)
    stops e = ended (taken_stops next rows n steps at (count - total) e)

    -- there are rows enough
    pub full : count ≤ total → (total ≡ length (taken next rows n start count).rows) × (at ≡ (taken next rows n start count).end)
    full h =
        let none_wanted : count - total ≡ 0 = omega arith in
        ended (rw none_wanted (wanted_none at (next at) refl))

    -- a record more
    pub adds : total < count → (m k : ℕ) → next at ≡ Some m → k ≡ length (rows at) → Counts next rows n start count m (total + k)
    adds h m k e k-is =
        let left = count - total in
        let rest = taken next rows n m (left - length (rows at)) in
        let is : taken next rows n at left ≡ with_record (rows at) rest = taken_on next rows n steps at m left e ∙ simp (ne_eqb left 0 (λ z. omega arith)) in
        let same : count - (total + k) ≡ left - length (rows at) = omega arith in
        record {
          number = rw same (omega (arith, c.number, ap (λ (t : Taken). length t.rows) is, length-append (rows at) rest.rows));
          end = rw same (c.end ∙ ap (λ (t : Taken). t.end) is);
        }

-- a record's rows are no more than its payload's bytes
pub rows_most : (kinds s : List ℕ) (at : ℕ) → length (rows_at kinds s at) ≤ length (payload_at s at)
rows_most kinds s at = rw (rows_length kinds s at) (at_most (kind_at kinds s at) (outgoing_at s at) (payload_at s at))
