-- What a page takes, record by record, and how many rows it has with their gaps. Over any record test and any rows of a record. Assumes nothing.
use Prim.Native.Nat.{ℕ, suc}
use lib.IntN.{ℤ}
use lib.ListN.{length}
use mathlib.Core.List.{List, [], ◌∷◌}
use Rattle.std.specs.Prelude.{Option, None, Some}
use mathlib.Core.Path.{◌≡◌, refl, ap}
use Rattle.record.proofs.Steps.{Steps}
use Rattle.rows.specs.declared.Row.{Row}
use Rattle.seam.proofs.Walks.{stopped, goes_on_lem}
use Rattle.paging.specs.Page.{gapped, Taken, none_taken, taken_at, taken}

module _ (next : ℕ → Option ℕ) (rows : ℕ → List Row) (n : ℕ) (steps : Steps next n) where
  pub taken_stops : (at count : ℕ) → next at ≡ None → taken next rows n at count ≡ none_taken at
  unfolding taken
  taken_stops at count e = ap (λ (f : ℕ → Taken). f count) (stopped next n steps (λ (end : ℕ) (wanted : ℕ). none_taken end) (taken_at rows) n at e)

  pub taken_on : (at m count : ℕ) → next at ≡ Some m → taken next rows n at count ≡ taken_at rows at (taken next rows n m) count
  unfolding taken
  taken_on at m count e = ap (λ (f : ℕ → Taken). f count) (goes_on_lem next n steps (λ (end : ℕ) (wanted : ℕ). none_taken end) (taken_at rows) at m e)

pub length_gapped : (before : Option ℤ) (rows : List Row) → length (gapped before rows) ≡ length rows
unfolding gapped
length_gapped before [] = refl
length_gapped before (r ∷ rs) = ap suc (length_gapped (Some r.millis) rs)
