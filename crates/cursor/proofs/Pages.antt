-- Pages of an unbroken stretch: what a page takes and what is left after it are all the rows, and less is left. Over any record test and any rows
-- of a record. Assumes nothing.
use Prim.Native.Nat.{ℕ, suc, ◌-◌, ◌≤◌}
use borrow.Author.Tests.{ne_eqb}
use lib.Dec.{ltb, eqb}
use lib.IntN.{ℤ, pos}
use lib.ListN.{length}
use mathlib.Core.Bool.{cond}
use mathlib.Core.List.{List, [], ◌∷◌, ◌++◌, append_assoc}
use Rattle.std.specs.Prelude.{Option, None, Some}
use mathlib.Core.Path.{◌≡◌, refl, sym, ap, ◌∙◌}
use native.Mathlib.Omega.{arith}
use Rattle.choice.proofs.Choice.{either}
use Rattle.layout.specs.Layout.{header_size, trace_limit}
use Rattle.record.proofs.Steps.{Steps, past_end}
use Rattle.rows.specs.declared.Row.{Row}
use Rattle.seam.specs.Seam.{Unbroken, ends, more}
use Rattle.paging.specs.Page.{with_gap, gapped, Taken, none_taken, with_record, taken, PageGiven, going_on, last_page, page_refused, with_none, lent_to, page_of, page_from}
use Rattle.cursor.specs.Reading.{bare, rows_from}
use Rattle.seam.proofs.Walks.{stopped, goes_on_lem}
use Rattle.seam.proofs.Boundaries.{finds, finds_none}
use Rattle.paging.proofs.Pages.{taken_stops, taken_on}

-- gaps aside
pub bare_append : (xs ys : List Row) → bare (xs ++ ys) ≡ bare xs ++ bare ys
unfolding bare
bare_append [] ys = refl
bare_append (x ∷ xs) ys = ap (λ (l : List Row). with_gap (pos 0) x ∷ l) (bare_append xs ys)

pub bare_gapped : (before : Option ℤ) (rows : List Row) → bare (gapped before rows) ≡ bare rows
unfolding bare gapped
bare_gapped before [] = refl
bare_gapped before (r ∷ rs) = ap (λ (l : List Row). with_gap (pos 0) r ∷ l) (bare_gapped (Some r.millis) rs)

module _ (next : ℕ → Option ℕ) (rows : ℕ → List Row) (n : ℕ) (steps : Steps next n) where
  pub rows_stop : (at : ℕ) → next at ≡ None → rows_from next rows n at ≡ []
  unfolding rows_from
  rows_stop at e = stopped next n steps (λ (end : ℕ). []) (λ (here : ℕ) (rest : List Row). rows here ++ rest) n at e

  pub rows_on : (at m : ℕ) → next at ≡ Some m → rows_from next rows n at ≡ rows at ++ rows_from next rows n m
  unfolding rows_from
  rows_on at m e = goes_on_lem next n steps (λ (end : ℕ). []) (λ (here : ℕ) (rest : List Row). rows here ++ rest) at m e

  -- what a page takes from a place on leaves an unbroken stretch of no more than so many records, and all the rows are there
  pub record Part (at bound : ℕ) (t : Taken) : Type 0 where
    pub left : ℕ
    pub fewer : left ≤ bound
    pub rest : Unbroken next n t.end left
    pub further_on : at ≤ t.end
    pub together : t.rows ++ rows_from next rows n t.end ≡ rows_from next rows n at

  part_none : {at k : ℕ} → Unbroken next n at k → Part at k (none_taken at)
  part_none {at} {k} u = record { left = k; fewer = omega arith; rest = u; further_on = omega arith; together = refl }

  part_record : {at m k : ℕ} → next at ≡ Some m → (t : Taken) → Part m k t → Part at k (with_record (rows at) t)
  part_record {at} {m} {k} e t p =
      record {
        left = p.left;
        fewer = p.fewer;
        rest = p.rest;
        further_on = omega (arith, p.further_on, steps.grows at m e);
        together = append_assoc (rows at) t.rows (rows_from next rows n t.end) ∙ ap (λ (l : List Row). rows at ++ l) p.together ∙ sym (rows_on at m e);
      }

  looser : {at k : ℕ} (t : Taken) → Part at k t → Part at (suc k) t
  looser t p = record { left = p.left; fewer = omega (arith, p.fewer); rest = p.rest; further_on = p.further_on; together = p.together }

  pub part : {at k : ℕ} → Unbroken next n at k → (count : ℕ) → Part at k (taken next rows n at count)
  part ends count = rw (taken_stops next rows n steps n count (past_end next n steps n (omega arith))) (part_none ends)
  part (more {at} {m} {k} e u) count =
      rw (taken_on next rows n steps at m count e)
      (either (eqb count 0)
      (λ yes'. rw yes' (part_none (more e u)))
      (λ no'. rw no' (looser (with_record (rows at) (taken next rows n m (count - length (rows at)))) (part_record e (taken next rows n m (count - length (rows at))) (part u (count - length (rows at)))))))

  -- with a count of at least 1 the record at the place is taken
  pub part_more : {at m k : ℕ} → next at ≡ Some m → Unbroken next n m k → (count : ℕ) → 1 ≤ count → Part at k (taken next rows n at count)
  part_more {at} {m} {k} e u count h =
      rw (taken_on next rows n steps at m count e) (rw (ne_eqb count 0 (λ z. omega arith))
      (part_record e (taken next rows n m (count - length (rows at))) (part u (count - length (rows at)))))

  module _ (before : Option ℤ) (fits : n ≤ trace_limit) where
    -- the page from a record's place
    page_is : {at k : ℕ} → header_size ≤ at → Unbroken next n at (suc k) → (count room : ℕ)
        → page_from next rows n before at count room ≡ lent_to n before room count at (taken next rows n at count)
    unfolding page_from
    page_is {at} low u count room = ap (page_of next rows n before at count room) (sym (finds next n steps fits low u))

    -- and from the end
    pub page_end : header_size ≤ n → (count room : ℕ) → page_from next rows n before n count room ≡ with_none (last_page n 0)
    unfolding page_from
    page_end low count room = ap (page_of next rows n before n count room) (sym (finds_none next n steps fits low))

    -- a page that is not refused for want of room
    pub page_given : {at k : ℕ} → header_size ≤ at → Unbroken next n at (suc k) → (count room : ℕ) → 1 ≤ count
        → ((page_from next rows n before at count room).told.refusal ≡ 7 → ⊥)
        → page_from next rows n before at count room
        ≡ record {
          told = cond (ltb (taken next rows n at count).end n) (going_on at (length (taken next rows n at count).rows) (taken next rows n at count).end) (last_page at (length (taken next rows n at count).rows));
          rows = gapped before (taken next rows n at count).rows;
        }
    page_given {at} low u count room h enough =
        let t = taken next rows n at count in
        let is = page_is low u count room in
        either (ltb room (length t.rows))
        (λ yes'.
        let refused : page_from next rows n before at count room ≡ with_none (page_refused 7) = is ∙ simp yes' in
        absurd (enough (ap (λ (p : PageGiven). p.told.refusal) refused)))
        (λ no'. is ∙ simp (no', ne_eqb count 0 (λ z. omega arith)))
