-- The text of a page, as the page's answer and its table give it. Assumes nothing.
use Prim.Native.Nat.{ℕ, suc, ◌≤◌}
use lib.Dec.{ltb, eqb}
use lib.IntN.{ℤ}
use lib.ListN.{length, take, drop, length-append}
use lib.Seq.{take-append_seam}
use mathlib.Core.List.{List, ◌++◌, flat_map}
use Rattle.std.specs.Prelude.{Option, None, Some, Result, Ok, Err}
use mathlib.Core.Path.{◌≡◌, refl, sym, ap, ◌∙◌}
use native.Mathlib.Omega.{arith}
use Rattle.choice.proofs.Choice.{by_choice}
use Rattle.resync.specs.Search.{searched, default_window}
use Rattle.rows.specs.declared.Row.{Row}
use Rattle.paging.specs.Page.{Taken, taken, gapped, PageTold, PageGiven, next_told, going_on, last_page, going_or_last, with_none, page_refused, lent_to, page_from, page_refusal, told_page}
use Rattle.record.specs.Record.{plausible, next_at}
use Rattle.rows.specs.Rows.{rows_at}
use Rattle.cursor.specs.Table.{Answered, blanks}
use Rattle.cursor.specs.declared.Table.{Table}
use Rattle.paging.specs.declared.Page.{Page}
use Rattle.paging.specs.declared.PageError.{PageError}
use Rattle.paging.specs.declared.PageError.TheVariants.{TraceTooLong, WindowTooLong, TableTooShort}
use Rattle.paging.proofs.Pages.{length_gapped}
use Rattle.lines.specs.Lines.{row_text, refusal_text}
use Rattle.listing.specs.Listing.{page_of, after_page, rows_text, pages_text, seam_text}

refused_text : (e : PageError) (rows : List Row) (rest : List ℕ) → rows_text (page_refusal e) rows rest ≡ refusal_text (page_refusal e)
unfolding rows_text
refused_text TraceTooLong rows rest = refl
refused_text WindowTooLong rows rest = refl
refused_text TableTooShort rows rest = refl

-- the size told is the number of rows
abbrev Sized : PageGiven → Type 0
Sized g = g.told.size ≡ length g.rows

module _ (next : ℕ → Option ℕ) (rows : ℕ → List Row) (n : ℕ) (before : Option ℤ) (offset room : ℕ) where
  size_taken : (start : ℕ) (t : Taken) → (next_told n 64 start t).size ≡ length t.rows
  size_taken start t = by_choice (λ (p : PageTold). p.size ≡ length t.rows) (ltb t.end n) (λ e. refl) (λ e. refl)

  size_lent : (start : ℕ) (t : Taken) → Sized (lent_to n before room 64 start t)
  size_lent start t =
      by_choice Sized (ltb room (length t.rows))
      {a = with_none (page_refused 7)}
      {b = record { told = next_told n 64 start t; rows = gapped before t.rows }}
      (λ e. refl)
      (λ e. size_taken start t ∙ sym (length_gapped before t.rows))

  page_sized : Sized (page_from next rows n before offset 64 room)
  unfolding page_from
  page_sized =
      let t = searched next n offset default_window in
      by_choice Sized t.is_found (λ e. size_lent t.offset (taken next rows n t.offset 64))
      (λ e. by_choice (λ (p : PageTold). p.size ≡ 0) (eqb t.refusal 0) (λ x. refl) (λ x. refl))

module _ (g : PageGiven) (sized : Sized g) (p : Result Page PageError) (before rows : List Row) (a : Answered g p before rows) where
  module _ (q : Page) (is : p ≡ Ok q) where
    told_is : (next : Option ℕ) → q.next ≡ next → going_or_last q.start q.size next ≡ g.told
    told_is next e = ap (going_or_last q.start q.size) (sym e) ∙ ap told_page (sym is) ∙ a.told

    size_by : (next : Option ℕ) → q.next ≡ next → q.size ≡ length g.rows
    size_by (Some next) e = ap (λ (t : PageTold). t.size) (told_is (Some next) e) ∙ sized
    size_by None e = ap (λ (t : PageTold). t.size) (told_is None e) ∙ sized

    size_is : q.size ≡ length g.rows
    size_is = size_by q.next refl

    within : q.size ≤ length rows
    within = omega (arith, size_is, ap length a.rows, length-append g.rows (drop (length g.rows) before))

    -- the table's first rows are the page's
    first_rows : take q.size rows ≡ g.rows
    first_rows = rw size_is (rw a.rows (take-append_seam g.rows (drop (length g.rows) before)))

    module _ (next : ℕ → List ℕ) (end : List ℕ) where
      -- a page that names a next place
      goes_on_lem : (at : ℕ) → q.next ≡ Some at → rows_text g.told.refusal g.rows (after_page g next end) ≡ flat_map row_text (take q.size rows) ++ next at
      unfolding rows_text
      goes_on_lem at e =
          let told : going_on q.start q.size at ≡ g.told = told_is (Some at) e in
          rw (← told) (ap (λ (x : List Row). flat_map row_text x ++ next at) (sym first_rows))

      -- one that names none
      is_last : q.next ≡ None → rows_text g.told.refusal g.rows (after_page g next end) ≡ flat_map row_text (take q.size rows) ++ end
      unfolding rows_text
      is_last e =
          let told : last_page q.start q.size ≡ g.told = told_is None e in
          rw (← told) (ap (λ (x : List Row). flat_map row_text x ++ end) (sym first_rows))

  -- one that is refused
  is_refused : (e : PageError) → p ≡ Err e → (rest : List ℕ) → rows_text g.told.refusal g.rows rest ≡ refusal_text (page_refusal e)
  is_refused e is rest =
      let told : page_refused (page_refusal e) ≡ g.told = ap told_page (sym is) ∙ a.told in
      rw (← told) (refused_text e g.rows rest)

-- of a page from a place, as a table has it
module _ (kinds s : List ℕ) (at : ℕ) (t : Table) (a : Answered (page_of kinds s at) t.page blanks t.rows) where
  sized : Sized (page_of kinds s at)
  sized = page_sized (next_at plausible kinds s) (rows_at kinds s) (length s) None at 600

  module _ (q : Page) (is : t.page ≡ Ok q) where
    pub rows_inside : q.size ≤ length t.rows
    rows_inside = within (page_of kinds s at) sized t.page blanks t.rows a q is

  module _ (k turns : ℕ) (more : k ≡ suc turns) where
    abbrev text : ℕ → ℕ → List ℕ
    text = pages_text (page_of kinds s) (seam_text kinds s)

    module _ (q : Page) (is : t.page ≡ Ok q) where
      pub more_text : (next : ℕ) → q.next ≡ Some next → text k at ≡ flat_map row_text (take q.size t.rows) ++ text turns next
      unfolding pages_text
      more_text next e = rw more (goes_on_lem (page_of kinds s at) sized t.page blanks t.rows a q is (text turns) (seam_text kinds s) next e)

      pub last_text : q.next ≡ None → text k at ≡ flat_map row_text (take q.size t.rows) ++ seam_text kinds s
      unfolding pages_text
      last_text e = rw more (is_last (page_of kinds s at) sized t.page blanks t.rows a q is (text turns) (seam_text kinds s) e)

    pub unlisted : (e : PageError) → t.page ≡ Err e → text k at ≡ refusal_text (page_refusal e)
    unfolding pages_text
    unlisted e is = rw more (is_refused (page_of kinds s at) sized t.page blanks t.rows a e is (after_page (page_of kinds s at) (text turns) (seam_text kinds s)))
