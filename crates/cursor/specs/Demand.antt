-- Demand 3, sentence by sentence, of a trace, a place and what the seam check answered there. That it holds is proofs/Demand3.antt.
use Rattle.std.specs.Prelude.{ℕ, ◌+◌, ◌≤◌, length, Bool, false, List, ◌↔◌, ◌≡◌, None, Result, Ok}
use Rattle.record.specs.Record.{Limits, next_at}
use Rattle.rows.specs.Rows.{rows_at}
use Rattle.rows.specs.declared.Row.{Row}
use Rattle.seam.specs.Seam.{Unbroken, Broken}
use Rattle.seam.specs.declared.Seam.{Seam}
use Rattle.seam.specs.declared.SeamError.{SeamError}
use Rattle.cursor.specs.Reading.{Call, page_rows, Asked, Roomy, Chosen, Reading, joined, bare, rows_from, Gaps}

pub record Demand (limits : Limits) (kinds s : List ℕ) (place : ℕ) (check : Result Seam SeamError) : Type 0 where
  -- "The new check says "unbroken" exactly when valid records follow one another from there to the last byte, and gives their number"
  pub unbroken : (k : ℕ) → (check ≡ Ok (Seam.Unbroken k)) ↔ Unbroken (next_at limits kinds s) (length s) place k
  pub broken : (at k : ℕ) → (check ≡ Ok (Seam.Broken at k)) ↔ Broken (next_at limits kinds s) (length s) place at k
  -- "If unbroken, read pages from there, each from the place the last one named, with any counts of at least 1 and room enough. The pages end":
  -- however they are read, there is one more than there are records at most
  pub ends : (k : ℕ) → check ≡ Ok (Seam.Unbroken k) → (calls : List Call) (goes : Bool) → Reading (Asked limits kinds s) place calls goes → length calls ≤ k + 1
  -- and with whatever counts and tables, chosen at each place, there are pages to one that names no next place
  pub reads : (k : ℕ) → check ≡ Ok (Seam.Unbroken k) → (counts : ℕ → ℕ) (tables : ℕ → List Row) → ((at : ℕ) → 1 ≤ counts at)
      → (calls : List Call) × Reading (λ (at : ℕ) (c : Call). Asked limits kinds s at c × Chosen counts tables at c) place calls false
  -- "and joined they hold every frame of every record, as demand 2 defines it, once, in file order, with its origin. Only the gap .. may differ"
  pub whole : (k : ℕ) → check ≡ Ok (Seam.Unbroken k) → (calls : List Call) → Reading (λ (at : ℕ) (c : Call). Asked limits kinds s at c × Roomy c) place calls false
      → bare (joined calls) ≡ rows_from (next_at limits kinds s) (rows_at kinds s) (length s) place
  -- "it is 0 on each page's first row", and of every other the difference to the row before
  pub gaps : (at : ℕ) (c : Call) → Asked limits kinds s at c → Gaps None (page_rows c)
