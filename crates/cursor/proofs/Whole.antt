-- Towards demand 3: that the rows of records have no gaps to put aside, and the demand from the check's answer. Assumes nothing.
use Prim.Native.Nat.{ℕ, ◌+◌, ◌≤◌}
use lib.IntN.{pos}
use lib.ListN.{length}
use mathlib.Core.Bool.{Bool}
use mathlib.Core.List.{List, [], ◌∷◌}
use mathlib.Core.Logic.{◌↔◌}
use Rattle.std.specs.Prelude.{Option, None, Some}
use mathlib.Core.Path.{◌≡◌, refl, sym, ap, ◌∙◌}
use Rattle.ticks.specs.Ticks.{unix_millis}
use Rattle.layout.specs.Layout.{header_size, trace_limit}
use Rattle.layout.specs.Fields.{ticks_at}
use Rattle.record.proofs.Steps.{Steps}
use Rattle.record.proofs.Valid.{record_steps}
use Rattle.record.specs.Record.{Limits, next_at}
use Rattle.rows.specs.Frames.{Placed}
use Rattle.rows.specs.Rows.{row_of, frames_at, numbered, rows_at}
use Rattle.rows.specs.declared.Row.{Row}
use Rattle.seam.specs.Seam.{Unbroken, Broken, seam_at, told_seam}
use Rattle.seam.specs.declared.Seam.{Seam}
use Rattle.seam.specs.declared.SeamError.{SeamError}
use Rattle.std.specs.Prelude.{Result, Ok}
use Rattle.cursor.specs.Demand.{Demand}
use Rattle.cursor.specs.Reading.{Call, Asked, Roomy, Reading, last, more, bare, rows_from}
use Rattle.seam.proofs.Only.{only_seam}
use Rattle.seam.proofs.Walks.{by_records}
use Rattle.seam.proofs.SeamLaws.{seam_unbroken, seam_broken}
use Rattle.cursor.proofs.Gaps.{page_gaps}
use Rattle.cursor.proofs.Held.{rows_held}
use Rattle.cursor.proofs.Pages.{bare_append, rows_stop, rows_on}
use Rattle.cursor.proofs.Readings.{few_pages, read_all, reads_all}

-- a record's rows have no gaps
bare_numbered : (s : List ℕ) (at k : ℕ) (fs : List Placed) → bare (numbered s at k fs) ≡ numbered s at k fs
unfolding bare numbered
bare_numbered s at k [] = refl
bare_numbered s at k (f ∷ fs) = ap (λ (l : List Row). row_of at k (unix_millis (ticks_at s at)) (pos 0) f.frame ∷ l) (bare_numbered s at (k + 1) fs)

bare_record : (kinds s : List ℕ) (at : ℕ) → bare (rows_at kinds s at) ≡ rows_at kinds s at
unfolding rows_at
bare_record kinds s at = bare_numbered s at 0 (frames_at kinds s at 0)

-- calls of a kind are calls of another that has them all
pub reading_of : {A B : ℕ → Call → Type 0} → ((at : ℕ) (c : Call) → A at c → B at c) → {at : ℕ} {calls : List Call} {goes : Bool} → Reading A at calls goes → Reading B at calls goes
reading_of f {at} (last {c = c} o e) = last (f at c o) e
reading_of f {at} (more {c = c} o e rd) = more (f at c o) e (reading_of f rd)

module _ (limits : Limits) (kinds s : List ℕ) where
  abbrev next : ℕ → Option ℕ
  next = next_at limits kinds s

  abbrev all : ℕ → List Row
  all at = rows_from next (rows_at kinds s) (length s) at

  steps : Steps next (length s)
  steps = record_steps limits kinds s

  none_bare : (at : ℕ) → next at ≡ None → bare (all at) ≡ all at
  unfolding bare
  none_bare at e = rw (rows_stop next (rows_at kinds s) (length s) steps at e)

  more_bare : (at m : ℕ) → next at ≡ Some m → bare (all m) ≡ all m → bare (all at) ≡ all at
  more_bare at m e h =
      rw (rows_on next (rows_at kinds s) (length s) steps at m e)
      (bare_append (rows_at kinds s at) (all m) ∙ rw (bare_record kinds s at) (rw h))

  all_bare : (at : ℕ) → bare (all at) ≡ all at
  all_bare = by_records next (length s) steps (λ (at : ℕ). bare (all at) ≡ all at) none_bare more_bare

  module _ (place : ℕ) (check : Result Seam SeamError) (fits : length s ≤ trace_limit) (low : header_size ≤ place) (high : place ≤ length s) (checked : told_seam check ≡ seam_at limits kinds s place) where
    -- what the check says
    says_unbroken : (k : ℕ) → (check ≡ Ok (Seam.Unbroken k)) ↔ Unbroken next (length s) place k
    says_unbroken k =
        let law = seam_unbroken limits kinds s place fits low high k in
        (λ e. law.0 (sym checked ∙ ap told_seam e), λ u. only_seam check (Ok (Seam.Unbroken k)) (checked ∙ law.1 u))

    says_broken : (at k : ℕ) → (check ≡ Ok (Seam.Broken at k)) ↔ Broken next (length s) place at k
    says_broken at k =
        let law = seam_broken limits kinds s place fits low high at k in
        (λ e. law.0 (sym checked ∙ ap told_seam e), λ b. only_seam check (Ok (Seam.Broken at k)) (checked ∙ law.1 b))

    pub demanded : Demand limits kinds s place check
    demanded =
        record {
          unbroken = says_unbroken;
          broken = says_broken;
          ends = λ k e calls goes rd. few_pages next (rows_at kinds s) (length s) steps None fits (Asked limits kinds s) (λ at c o. o.answered) (λ at c o. o.counted) rd k low ((says_unbroken k).0 e);
          reads = λ k e counts tables h.
              let all_read = reads_all next (rows_at kinds s) (length s) steps None fits counts tables h place k low ((says_unbroken k).0 e) in
              (all_read.0, reading_of (λ at c o. (record { answered = o.0; counted = o.1 }, o.2)) all_read.1);
          whole = λ k e calls rd.
              read_all next (rows_at kinds s) (length s) steps None fits (λ (at : ℕ) (c : Call). Asked limits kinds s at c × Roomy c) (λ at c o. o.0.answered) (λ at c o. o.0.counted) (λ at c o. o.1) rd refl k low ((says_unbroken k).0 e)
              ∙ all_bare place;
          gaps = λ at c o.
              rw (rows_held next (rows_at kinds s) (length s) steps None at c o.answered) (page_gaps next (rows_at kinds s) (length s) None at c.count (length c.lent));
        }
