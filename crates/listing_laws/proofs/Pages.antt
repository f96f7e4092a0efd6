-- The pages of an input's trace, which has 7,932 bytes at most: none of them is refused with 7, and their text has a bound. Assumes nothing.
use Prim.Native.Nat.{ℕ, zero, suc, ◌+◌, ◌-◌, ◌*◌, ◌≤◌, ◌<◌}
use lib.Dec.{ltb, eqb}
use lib.ListN.{length, length-append}
use mathlib.Core.Bool.{true, false, true≢false}
use mathlib.Core.List.{List, [], ◌∷◌, ◌++◌, flat_map}
use Rattle.std.specs.Prelude.{Option, None, Some}
use mathlib.Core.Path.{◌≡◌, refl, sym, ◌∙◌}
use native.Mathlib.Omega.{arith}
use borrow.Author.Tests.{ltb-true}
use Rattle.choice.proofs.Choice.{either, by_choice}
use Rattle.layout.specs.Layout.{header_size, trace_limit}
use Rattle.record.specs.Record.{plausible, next_at}
use Rattle.resync.specs.Boundary.{boundary}
use Rattle.resync.specs.Search.{SearchTold, nothing, first_from, start_of, window_of, judged_of, searched, default_window}
use Rattle.resync.proofs.Found.{FoundFirst, found_is}
use Rattle.rows.specs.Rows.{rows_at}
use Rattle.paging.specs.Page.{taken, gapped, PageTold, PageGiven, next_told, going_on, last_page, with_none, page_refused, lent_to, page_from}
use Rattle.paging.proofs.Pages.{length_gapped}
use Rattle.text.specs.Texts.{decimal_text}
use Rattle.lines.specs.Lines.{row_text, refusal_text}
use Rattle.listing.specs.Listing.{page_of, after_page, rows_text, pages_text}
use Rattle.listing_laws.proofs.Each.{Each}
use Rattle.listing_laws.proofs.Texts.{most, number, line_most, Small, rows_most}
use Rattle.listing_laws.proofs.Rows.{Took, took, gapped_none}

-- a page from a place on in n bytes: what it takes and what is left after it were left before it
pub record Fits (n at : ℕ) (g : PageGiven) : Type 0 where
  pub small : Each Small g.rows
  pub room : g.told.refusal ≡ 7 → ⊥
  pub refusal : g.told.refusal < most
  pub few : 10 * length g.rows ≤ n - at
  pub more : g.told.is_more ≡ true → 10 * length g.rows + (n - g.told.next) ≤ n - at

judged_refusal : (start all : ℕ) (o : Option ℕ) → (judged_of start all o).refusal ≡ 0
judged_refusal start all None = refl
judged_refusal start all (Some r) = refl

pub search_refusal : (next : ℕ → Option ℕ) (n from window : ℕ) → (searched next n from window).refusal ≤ 5
unfolding searched
search_refusal next n from window =
    let start = start_of from in
    let all = window_of n start window in
    let o = first_from (boundary next n) start all in
    by_choice (λ (t : SearchTold). t.refusal ≤ 5) (ltb trace_limit n) {a = nothing 1 0}
    (λ e. omega arith)
    (λ e. by_choice (λ (t : SearchTold). t.refusal ≤ 5) (ltb 18446744073709551615 (start + window)) {a = nothing 5 0} {b = judged_of start all o}
    (λ z. omega arith)
    (λ z. omega (arith, judged_refusal start all o)))

module _ (kinds s : List ℕ) (short : length s ≤ 7932) where
  abbrev next : ℕ → Option ℕ
  next = next_at plausible kinds s

  abbrev n : ℕ
  n = length s

  -- a page that has no row
  empty : (at : ℕ) (t : PageTold) → t.is_more ≡ false → t.refusal ≤ 6 → Fits n at (with_none t)
  empty at t e h =
      record {
        small = tt;
        room = λ z. omega arith;
        refusal = omega arith;
        few = omega arith;
        more = λ y. absurd (true≢false (sym y ∙ e));
      }

  lent_fits : (at start : ℕ) → at ≤ start → header_size ≤ start → start ≤ n → Fits n at (lent_to n None 600 64 start (taken next (rows_at kinds s) n start 64))
  lent_fits at start from high within =
      let t = taken next (rows_at kinds s) n start 64 in
      let k : Took kinds s short start t = took kinds s short start 64 in
      let len : length (gapped None t.rows) ≡ length t.rows = length_gapped None t.rows in
      let inside : t.end ≤ n = k.inside within in
      by_choice (Fits n at) (ltb 600 (length t.rows))
      {a = with_none (page_refused 7)} {b = record { told = next_told n 64 start t; rows = gapped None t.rows }}
      (λ e. absurd (omega (arith, ltb-true 600 (length t.rows) e, k.few)))
      (λ e.
      by_choice (λ (p : PageTold). Fits n at (record { told = p; rows = gapped None t.rows })) (ltb t.end n)
      {a = going_on start (length t.rows) t.end} {b = last_page start (length t.rows)}
      (λ z.
      record {
        small = gapped_none t.rows k.plain;
        room = λ y. omega arith;
        refusal = omega arith;
        few = omega (arith, k.few);
        more = λ y. omega (arith, k.few);
      })
      (λ z.
      record {
        small = gapped_none t.rows k.plain;
        room = λ y. omega arith;
        refusal = omega arith;
        few = omega (arith, k.few);
        more = λ y. absurd (true≢false (sym y));
      }))

  pub page_fits : (at : ℕ) → Fits n at (page_of kinds s at)
  unfolding page_from
  page_fits at =
      let t = searched next n at default_window in
      by_choice (Fits n at) t.is_found
      (λ e.
      let f : FoundFirst next n (start_of at) default_window t = found_is next n at default_window t refl e in
      lent_fits at t.offset (omega (arith, f.from)) (omega (arith, f.from)) (omega (arith, f.within)))
      (λ e.
      by_choice (λ (p : PageTold). Fits n at (with_none p)) (eqb t.refusal 0) {a = last_page at 0} {b = page_refused t.refusal}
      (λ z. empty at (last_page at 0) refl (omega arith))
      (λ z. empty at (page_refused t.refusal) refl (omega (arith, search_refusal next n at default_window))))

-- a refusal's line
pub refusal_most : (k : ℕ) → k < most → length (refusal_text k) ≤ 17
refusal_most k h = line_most 0x52 (decimal_text k ∷ []) (number k h, tt)

-- the text of so many pages and of what comes after them: 182 bytes for each 10 of the trace
module _ (page : ℕ → PageGiven) (n : ℕ) (fits : (at : ℕ) → Fits n at (page at)) (end : List ℕ) (most_end : ℕ) (ends : length end ≤ most_end) (some_room : 17 ≤ most_end) where
  abbrev bound : ℕ → ℕ
  bound at = 182 * (n - at) + 10 * most_end

  pub pages_most : (turns at : ℕ) → 10 * length (pages_text page end turns at) ≤ bound at
  unfolding pages_text rows_text
  pages_most zero at = omega arith
  pages_most (suc turns) at =
      let f = fits at in
      let rows = (page at).rows in
      let rest = after_page (page at) (pages_text page end turns) end in
      by_choice (λ (l : List ℕ). 10 * length l ≤ bound at) (eqb (page at).told.refusal 0)
      {a = flat_map row_text rows ++ rest} {b = refusal_text (page at).told.refusal}
      (λ e.
      rw (length-append (flat_map row_text rows) rest)
      (either (page at).told.is_more
      (λ y. rw y (omega (arith, rows_most rows f.small, f.more y, pages_most turns (page at).told.next)))
      (λ y. rw y (omega (arith, rows_most rows f.small, f.few)))))
      (λ e. omega (arith, refusal_most (page at).told.refusal f.refusal))
