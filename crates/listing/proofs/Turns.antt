-- The list has every page: a page that names a next place names a later one, before the trace's end. So a trace has no more pages than
-- bytes, and the text is the lines of the rows of the pages read one after the other, and what follows them. Assumes nothing.
use Prim.Native.Nat.{ℕ, zero, suc, ◌+◌, ◌-◌, ◌≤◌, ◌<◌}
use lib.Dec.{ltb, eqb}
use lib.IntN.{ℤ}
use lib.ListN.{length}
use mathlib.Core.Bool.{Bool, true, false, true≢false}
use mathlib.Core.List.{List, ◌++◌, append_assoc, append-nil, flat_map}
use Rattle.std.specs.Prelude.{Option, None, Some}
use mathlib.Core.Path.{◌≡◌, refl, sym, ap, ◌∙◌}
use native.Mathlib.Omega.{arith}
use borrow.Author.Tests.{ltb-true}
use Rattle.choice.proofs.Choice.{by_choice}
use Rattle.choice.proofs.Flat.{flat_append}
use Rattle.layout.specs.Layout.{header_size}
use Rattle.record.specs.Record.{plausible, next_at}
use Rattle.resync.specs.Search.{searched, default_window}
use Rattle.record.proofs.Steps.{Steps}
use Rattle.resync.proofs.Chain.{boundary_record}
use Rattle.resync.proofs.Found.{FoundFirst, found_is}
use Rattle.record.proofs.Valid.{record_steps}
use Rattle.rows.specs.Rows.{rows_at}
use Rattle.rows.specs.declared.Row.{Row}
use Rattle.paging.specs.Page.{Taken, taken, none_taken, with_record, gapped, PageTold, PageGiven, next_told, going_on, last_page, with_none, page_refused, lent_to, page_from, page_at}
use Rattle.cursor.specs.Reading.{Call, told, page_rows, Reading, last, more, joined}
use Rattle.cursor.proofs.Held.{rows_held}
use Rattle.paging.proofs.Pages.{taken_stops, taken_on}
use Rattle.seam.proofs.Walks.{by_records}
use Rattle.lines.specs.Lines.{row_text}
use Rattle.listing.specs.Listing.{rows_text, page_of, Listed, pages_text}

-- a page that names a next place names a later one, before the end
pub Moves : ℕ → ℕ → PageGiven → Type 0
Moves n at g = g.told.is_more ≡ true → (at < g.told.next) × (g.told.next < n)

module _ (next : ℕ → Option ℕ) (rows : ℕ → List Row) (n : ℕ) (steps : Steps next n) where
  -- what is taken ends no earlier than it begins
  further : (at count : ℕ) → at ≤ (taken next rows n at count).end
  further =
      by_records next n steps (λ (at : ℕ). (count : ℕ) → at ≤ (taken next rows n at count).end)
      (λ at e count. rw (taken_stops next rows n steps at count e) (omega arith))
      (λ at m e after count.
      rw (taken_on next rows n steps at m count e)
      (by_choice (λ (t : Taken). at ≤ t.end) (eqb count 0)
      {a = none_taken at} {b = with_record (rows at) (taken next rows n m (count - length (rows at)))}
      (λ x. omega arith)
      (λ x. omega (arith, steps.grows at m e, after (count - length (rows at))))))

  -- and later where a record is there and rows are wanted
  later : (at m : ℕ) → next at ≡ Some m → at < (taken next rows n at 64).end
  later at m e = rw (taken_on next rows n steps at m 64 e) (omega (arith, steps.grows at m e, further m (64 - length (rows at))))

  module _ (before : Option ℤ) (offset room : ℕ) where
    moves_lent : (start m : ℕ) → offset ≤ start → next start ≡ Some m → Moves n offset (lent_to n before room 64 start (taken next rows n start 64))
    unfolding Moves
    moves_lent start m h e =
        let t = taken next rows n start 64 in
        by_choice (Moves n offset) (ltb room (length t.rows))
        {a = with_none (page_refused 7)} {b = record { told = next_told n 64 start t; rows = gapped before t.rows }}
        (λ x y. absurd (true≢false (sym y)))
        (λ x. by_choice (λ (p : PageTold). p.is_more ≡ true → (offset < p.next) × (p.next < n)) (ltb t.end n)
        {a = going_on start (length t.rows) t.end} {b = last_page start (length t.rows)}
        (λ z y. (omega (arith, later start m e), ltb-true t.end n z))
        (λ z y. absurd (true≢false (sym y))))

    pub moves : Moves n offset (page_from next rows n before offset 64 room)
    unfolding page_from Moves
    moves =
        let t = searched next n offset default_window in
        by_choice (Moves n offset) t.is_found
        (λ e.
        let first : FoundFirst next n _ default_window t = found_is next n offset default_window t refl e in
        let there = boundary_record next n t.offset first.is_boundary in
        moves_lent t.offset there.0 (omega (arith, first.from)) there.1)
        (λ e. by_choice (λ (p : PageTold). p.is_more ≡ true → (offset < p.next) × (p.next < n)) (eqb t.refusal 0)
        {a = last_page offset 0} {b = page_refused t.refusal}
        (λ z y. absurd (true≢false (sym y)))
        (λ z y. absurd (true≢false (sym y))))

-- calls that each give the page from their place
module _ (page : ℕ → PageGiven) (call : ℕ → Call → Type 0) (is_told : (at : ℕ) (c : Call) → call at c → told c ≡ (page at).told) (is_rows : (at : ℕ) (c : Call) → call at c → page_rows c ≡ (page at).rows)
    (good : (at : ℕ) (c : Call) → call at c → (told c).refusal ≡ 0) where
  refused : (at : ℕ) (c : Call) → call at c → (page at).told.refusal ≡ 0
  refused at c o = sym (ap (λ (t : PageTold). t.refusal) (is_told at c o)) ∙ good at c o

  goes_on_lem : (at : ℕ) (c : Call) → call at c → (goes : Bool) → (told c).is_more ≡ goes → (page at).told.is_more ≡ goes
  goes_on_lem at c o goes e = sym (ap (λ (t : PageTold). t.is_more) (is_told at c o)) ∙ e

  place : (at : ℕ) (c : Call) → call at c → (page at).told.next ≡ (told c).next
  place at c o = sym (ap (λ (t : PageTold). t.next) (is_told at c o))

  -- so many pages
  number : (n : ℕ) → ((at : ℕ) → Moves n at (page at)) → {at : ℕ} {calls : List Call} {goes : Bool} → Reading call at calls goes → at ≤ n → length calls + at ≤ n + 1
  unfolding Moves
  number n m (last o e) h = omega arith
  number n m {at} (more {c = c} o e rest) h =
      let there = m at (goes_on_lem at c o true e) in
      let on = place at c o in
      omega (arith, there.0, number n m rest (omega (arith, there.1)))

  -- their text
  pub read_text : (end : List ℕ) {at : ℕ} {calls : List Call} {goes : Bool} → Reading call at calls goes → goes ≡ false → (turns : ℕ) → length calls ≤ turns
      → pages_text page end turns at ≡ flat_map row_text (joined calls) ++ end
  unfolding pages_text rows_text joined flat_map
  read_text end (last o e) f zero h = absurd (omega arith)
  read_text end {at} (last {c = c} o e) f (suc turns) h =
      simp (refused at c o, goes_on_lem at c o false (e ∙ f))
      (ap (λ (x : List Row). flat_map row_text x ++ end) (sym (is_rows at c o) ∙ sym (append-nil (page_rows c))))
  read_text end (more o e rest) f zero h = absurd (omega arith)
  read_text end {at} (more {c = c} {calls = calls} o e rest) f (suc turns) h =
      let on : pages_text page end turns (page at).told.next ≡ flat_map row_text (joined calls) ++ end = rw (place at c o) (read_text end rest f turns (omega arith)) in
      simp (refused at c o, goes_on_lem at c o true e)
      (ap (λ (t : List ℕ). flat_map row_text (page at).rows ++ t) on
      ∙ sym (append_assoc (flat_map row_text (page at).rows) (flat_map row_text (joined calls)) end)
      ∙ ap (λ (t : List ℕ). t ++ end) (sym (flat_append row_text (page at).rows (joined calls)))
      ∙ ap (λ (x : List Row). flat_map row_text (x ++ joined calls) ++ end) (sym (is_rows at c o)))

module _ (kinds s : List ℕ) where
  steps_in : Steps (next_at plausible kinds s) (length s)
  steps_in = record_steps plausible kinds s

  same : (at : ℕ) (c : Call) → Listed kinds s at c → page_at plausible kinds s None at c.count (length c.lent) ≡ page_of kinds s at
  same at c o = λ j. page_at plausible kinds s None at (o.count_is j) (o.room_is j)

  told_is : (at : ℕ) (c : Call) → Listed kinds s at c → told c ≡ (page_of kinds s at).told
  told_is at c o = o.asked.answered.told ∙ ap (λ (g : PageGiven). g.told) (same at c o)

  rows_are : (at : ℕ) (c : Call) → Listed kinds s at c → page_rows c ≡ (page_of kinds s at).rows
  rows_are at c o = rows_held (next_at plausible kinds s) (rows_at kinds s) (length s) steps_in None at c o.asked.answered ∙ ap (λ (g : PageGiven). g.rows) (same at c o)

  not_refused : (at : ℕ) (c : Call) → Listed kinds s at c → (told c).refusal ≡ 0
  not_refused at c o = o.good

  -- the pages from 2,048 on, each from the place that the last one named, are listed whole
  pub all_listed : (end : List ℕ) {calls : List Call} → header_size ≤ length s → Reading (Listed kinds s) header_size calls false
      → pages_text (page_of kinds s) end (length s) header_size ≡ flat_map row_text (joined calls) ++ end
  all_listed end {calls} h r =
      let n : length calls + header_size ≤ length s + 1 =
      number (page_of kinds s) (Listed kinds s) told_is rows_are not_refused (length s)
      (λ at. moves (next_at plausible kinds s) (rows_at kinds s) (length s) steps_in None at 600) r h in
      read_text (page_of kinds s) (Listed kinds s) told_is rows_are not_refused end r refl (length s) (omega arith)
