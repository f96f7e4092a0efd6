-- The size that a page tells is the number of its rows, for every count and room; and a table with as many rows as the trace has bytes is never
-- refused with 7. Assumes nothing.
use Prim.Native.Nat.{ℕ, ◌+◌, ◌-◌, ◌≤◌}
use borrow.Author.Tests.{ltb-true, eqb-true}
use lib.Dec.{ltb, eqb}
use lib.IntN.{ℤ}
use lib.ListN.{length, drop, length-append, length-take}
use mathlib.Core.List.{List}
use Rattle.std.specs.Prelude.{Option, None, Some}
use mathlib.Core.Path.{◌≡◌, refl, sym, ap, ◌∙◌}
use native.Mathlib.Omega.{arith}
use Rattle.choice.proofs.Choice.{by_choice}
use Rattle.layout.specs.Layout.{trace_limit, payload_part}
use Rattle.layout.specs.Fields.{length_at}
use Rattle.record.proofs.Steps.{Steps}
use Rattle.record.proofs.Valid.{record_steps, some_valid}
use Rattle.record.specs.Record.{Limits, next_at}
use Rattle.resync.proofs.Found.{FoundFirst, found_is}
use Rattle.resync.specs.Boundary.{boundary}
use Rattle.resync.specs.Search.{SearchTold, first_from, start_of, window_of, judged_of, searched, default_window}
use Rattle.rows.specs.Rows.{rows_at}
use Rattle.rows.specs.declared.Row.{Row}
use Rattle.seam.proofs.Walks.{by_records}
use Rattle.paging.specs.Page.{gapped, Taken, none_taken, with_record, taken, PageTold, PageGiven, next_told, lent_to, with_none, page_refused, page_from, page_at}
use Rattle.paging.proofs.Pages.{taken_stops, taken_on, length_gapped}
use Rattle.paging.proofs.Counting.{rows_most, wanted_none}

abbrev Sized : PageGiven → Type 0
Sized g = g.told.size ≡ length g.rows

module _ (next : ℕ → Option ℕ) (rows : ℕ → List Row) (n : ℕ) (steps : Steps next n) (before : Option ℤ) (count room : ℕ) where
  abbrev takes : ℕ → Taken
  takes start = taken next rows n start count

  none_for_zero : (start : ℕ) → count ≡ 0 → length (takes start).rows ≡ 0
  none_for_zero start e =
      ap (λ (k : ℕ). length (taken next rows n start k).rows) e ∙ ap (λ (t : Taken). length t.rows) (wanted_none next rows n steps start count start (next start) refl)

  lent_sized : (start : ℕ) → Sized (lent_to n before room count start (takes start))
  lent_sized start =
      let t = takes start in
      let same = sym (length_gapped before t.rows) in
      by_choice Sized (ltb room (length t.rows))
      {a = with_none (page_refused 7)}
      {b = record { told = next_told n count start t; rows = gapped before t.rows }}
      (λ e. refl)
      (λ e.
      by_choice (λ (p : PageTold). p.size ≡ length (gapped before t.rows)) (eqb count 0)
      (λ z. sym (none_for_zero start (eqb-true count 0 z)) ∙ same)
      (λ z. by_choice (λ (p : PageTold). p.size ≡ length (gapped before t.rows)) (ltb t.end n) (λ x. same) (λ x. same)))

  pub page_sized : (offset : ℕ) → Sized (page_from next rows n before offset count room)
  unfolding page_from
  page_sized offset =
      let t = searched next n offset default_window in
      by_choice Sized t.is_found (λ e. lent_sized t.offset)
      (λ e. by_choice (λ (p : PageTold). p.size ≡ 0) (eqb t.refusal 0) (λ x. refl) (λ x. refl))

-- ---- room enough
abbrev NotFull : PageTold → Type 0
NotFull t = t.refusal ≡ 7 → ⊥

-- a search is not refused with 7
search_by : (start all : ℕ) (o : Option ℕ) → (judged_of start all o).refusal ≡ 7 → ⊥
search_by start all None z = omega arith
search_by start all (Some at) z = omega arith

search_room : (next : ℕ → Option ℕ) (n from window : ℕ) → (searched next n from window).refusal ≡ 7 → ⊥
unfolding searched
search_room next n from window =
    let start = start_of from in
    by_choice (λ (t : SearchTold). t.refusal ≡ 7 → ⊥) (ltb trace_limit n) (λ _ z. omega arith)
    (λ _.
    by_choice (λ (t : SearchTold). t.refusal ≡ 7 → ⊥) (ltb 18446744073709551615 (start + window)) (λ _ z. omega arith)
    (λ _. search_by start (window_of n start window) (first_from (boundary next n) start (window_of n start window))))

module _ (limits : Limits) (kinds s : List ℕ) where
  abbrev next : ℕ → Option ℕ
  next = next_at limits kinds s

  abbrev rows : ℕ → List Row
  rows = rows_at kinds s

  abbrev n : ℕ
  n = length s

  steps : Steps next n
  steps = record_steps limits kinds s

  abbrev takes_at : ℕ → ℕ → Taken
  takes_at at count = taken next rows n at count

  -- a record's rows are fewer than its bytes
  few : (at m : ℕ) → next at ≡ Some m → length (rows at) + at ≤ m
  few at m e = omega (arith, rows_most kinds s at, length-take (length_at s at) (drop (at + payload_part) s), (some_valid limits kinds s at m e).1)

  -- so are those of the records that a page takes
  bound : (at count : ℕ) → length (takes_at at count).rows + at ≤ (takes_at at count).end
  bound =
      by_records next n steps (λ (at : ℕ). (count : ℕ) → length (takes_at at count).rows + at ≤ (takes_at at count).end)
      (λ at e count. rw (taken_stops next rows n steps at count e) (omega arith))
      (λ at m e ih count.
      let rest = takes_at m (count - length (rows at)) in
      rw (taken_on next rows n steps at m count e)
      (by_choice (λ (t : Taken). length t.rows + at ≤ t.end) (eqb count 0)
      {a = none_taken at}
      {b = with_record (rows at) rest}
      (λ x. omega arith)
      (λ x. omega (arith, few at m e, ih (count - length (rows at)), length-append (rows at) rest.rows))))

  inside : (at count : ℕ) → at ≤ n → (takes_at at count).end ≤ n
  inside =
      by_records next n steps (λ (at : ℕ). (count : ℕ) → at ≤ n → (takes_at at count).end ≤ n)
      (λ at e count h. rw (taken_stops next rows n steps at count e) h)
      (λ at m e ih count h.
      rw (taken_on next rows n steps at m count e)
      (by_choice (λ (t : Taken). t.end ≤ n) (eqb count 0)
      {a = none_taken at}
      {b = with_record (rows at) (takes_at m (count - length (rows at)))}
      (λ x. h)
      (λ x. ih (count - length (rows at)) (steps.inside at m e))))

  module _ (before : Option ℤ) (offset count room : ℕ) (enough : n ≤ room) where
    lent_room : (start : ℕ) → start ≤ n → NotFull (lent_to n before room count start (takes_at start count)).told
    lent_room start h =
        let t = takes_at start count in
        by_choice (λ (g : PageGiven). NotFull g.told) (ltb room (length t.rows))
        {a = with_none (page_refused 7)}
        {b = record { told = next_told n count start t; rows = gapped before t.rows }}
        (λ e z. omega (arith, ltb-true room (length t.rows) e, bound start count, inside start count h))
        (λ e.
        by_choice NotFull (eqb count 0) (λ x z. omega arith)
        (λ x. by_choice NotFull (ltb t.end n) (λ y z. omega arith) (λ y z. omega arith)))

    pub page_room : NotFull (page_at limits kinds s before offset count room).told
    unfolding page_from
    page_room =
        let t = searched next n offset default_window in
        by_choice (λ (g : PageGiven). NotFull g.told) t.is_found
        (λ e.
        let f : FoundFirst next n (start_of offset) default_window t = found_is next n offset default_window t refl e in
        lent_room t.offset (omega (arith, f.within)))
        (λ e.
        by_choice NotFull (eqb t.refusal 0) (λ _ z. omega arith)
        (λ _. search_room next n offset default_window))
