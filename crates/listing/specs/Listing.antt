-- The whole output of the program trace-list for an input.
use Rattle.std.specs.Prelude.{ℕ, zero, suc, leb, eqb, length, take, drop, cond, ◌&&◌, ◌≡◌, None}
use mathlib.Core.List.{List, [], ◌++◌, flat_map}
use Rattle.layout.specs.Layout.{le_at, header_size}
use Rattle.rows.specs.declared.Row.{Row}
use Rattle.record.specs.Record.{plausible}
use Rattle.resync.specs.Search.{SearchTold, search_from, default_window}
use Rattle.seam.specs.Opening.{OpeningTold, opening_of}
use Rattle.paging.specs.Page.{PageGiven, page_at}
use Rattle.seam.specs.Seam.{SeamTold, seam_at}
use Rattle.cursor.specs.Reading.{Call, told, Asked}
use Rattle.lines.specs.Lines.{row_text, refusal_text, version_text, unbroken_text, broken_text, none_text}

-- 01: "pages of 64 .. into a table of 600 rows"
abbrev pub page_of : List ℕ → List ℕ → ℕ → PageGiven
page_of kinds s at = page_at plausible kinds s None at 64 600

-- such a page, as a call has it that is not refused
pub record Listed (kinds s : List ℕ) (at : ℕ) (c : Call) : Type 0 where
  pub asked : Asked plausible kinds s at c
  pub count_is : c.count ≡ 64
  pub room_is : length c.lent ≡ 600
  pub good : (told c).refusal ≡ 0

-- what follows a page's rows: the next page, or what comes after the last
abbrev pub after_page : PageGiven → (ℕ → List ℕ) → List ℕ → List ℕ
after_page p next end = cond p.told.is_more (next p.told.next) end

-- 01: "an `F` line for each row", and what follows them; a refused page is told, and no more
unfoldable pub rows_text : ℕ → List Row → List ℕ → List ℕ
rows_text refusal rows rest = cond (eqb refusal 0) (flat_map row_text rows ++ rest) (refusal_text refusal)

-- 01: "until no next place is named"; so many pages at most. As many as the trace has bytes are enough (`all_listed` of proofs/Turns.antt)
unfoldable pub pages_text : (ℕ → PageGiven) → List ℕ → ℕ → ℕ → List ℕ
pages_text page end zero at = []
pages_text page end (suc turns) at =
    rows_text (page at).told.refusal (page at).rows (after_page (page at) (pages_text page end turns) end)

-- 01: "`U place records` or `B place break records`"
unfoldable pub seam_line : ℕ → SeamTold → List ℕ
seam_line place t =
    cond (eqb t.refusal 0)
    (cond t.is_unbroken (unbroken_text place t.records) (broken_text place t.place t.records))
    (refusal_text t.refusal)

-- 01: "the seam check from the first page's start .., or `N` if no record"
unfoldable pub seam_found : List ℕ → List ℕ → SearchTold → List ℕ
seam_found kinds s t =
    cond (eqb t.refusal 0)
    (cond t.is_found (seam_line t.offset (seam_at plausible kinds s t.offset)) none_text)
    (refusal_text t.refusal)

abbrev pub seam_text : List ℕ → List ℕ → List ℕ
seam_text kinds s = seam_found kinds s (search_from plausible kinds s header_size default_window)

-- 01: "It opens as a cursor (`R n` and no more on refusal) and prints `V version`, then pages .."
unfoldable pub opened_text : OpeningTold → List ℕ → List ℕ
opened_text o rest = cond (eqb o.refusal 0) (version_text o.version ++ rest) (refusal_text o.refusal)

-- a trace has no more pages than bytes
abbrev pub trace_text : List ℕ → ℕ → List ℕ → List ℕ
trace_text kinds version s = opened_text (opening_of s version) (pages_text (page_of kinds s) (seam_text kinds s) (length s) header_size)

-- 01: "standard input is 256 kinds, 4 bytes of version, low first, then the trace, 260 to 8,192 bytes in all, else `R 0`"
unfoldable pub list_text : List ℕ → List ℕ
list_text input =
    cond (leb 260 (length input) && leb (length input) 8192)
    (trace_text (take 256 input) (le_at 4 input 256) (drop 260 input))
    (refusal_text 0)
