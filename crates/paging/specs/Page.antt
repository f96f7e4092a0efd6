-- A page, over a record test, the rows of the record at a place, the trace's length n and the time before the page, if one is given.
use Rattle.std.specs.Prelude.{ℕ, ◌-◌, ltb, eqb, ℤ, length, Bool, true, false, cond, List, [], ◌∷◌, ◌++◌, Option, None, Some, Result, Ok, Err}
use Rattle.rows.specs.Rows.{rows_at}
use Rattle.rows.specs.declared.Row.{Row}
use Rattle.record.specs.Record.{Limits, next_at}
use Rattle.resync.specs.Search.{SearchTold, searched, default_window}
use Rattle.seam.specs.Walk.{walk}
use Rattle.steps.specs.Step.{gap_of}
use Rattle.paging.specs.declared.Page.{Page}
use Rattle.paging.specs.declared.PageError.{PageError}
use Rattle.paging.specs.declared.PageError.TheVariants.{TraceTooLong, WindowTooLong, TableTooShort}

abbrev pub with_gap : ℤ → Row → Row
with_gap gap r =
    record {
      «record» = r.«record»;
      position = r.position;
      millis = r.millis;
      gap = gap;
      direction = r.direction;
      region = r.region;
      channel = r.channel;
      speed = r.speed;
      rssi = r.rssi;
      beam_count = r.beam_count;
      mpdu = r.mpdu;
      mpdu_len = r.mpdu_len;
    }

-- the rows, each with its gap to the one before
unfoldable pub gapped : Option ℤ → List Row → List Row
gapped before [] = []
gapped before (r ∷ rs) = with_gap (gap_of before r.millis) r ∷ gapped (Some r.millis) rs

-- the rows of the records that are taken, and the end of the last
pub record Taken : Type 0 where
  pub rows : List Row
  pub end : ℕ

abbrev pub none_taken : ℕ → Taken
none_taken at = record { rows = []; end = at }

abbrev pub with_record : List Row → Taken → Taken
with_record rows t = record { rows = rows ++ t.rows; end = t.end }

-- 01: "It takes whole records until it has at least `count` rows, a record is invalid, or the trace ends": the record at a place, where
-- `count` rows are still wanted, and what is taken after it
abbrev pub taken_at : (ℕ → List Row) → ℕ → (ℕ → Taken) → ℕ → Taken
taken_at rows at rest count = cond (eqb count 0) (none_taken at) (with_record (rows at) (rest (count - length (rows at))))

unfoldable pub taken : (ℕ → Option ℕ) → (ℕ → List Row) → ℕ → ℕ → ℕ → Taken
taken next rows n at count = walk next (λ (end : ℕ) (wanted : ℕ). none_taken end) (taken_at rows) n at count

-- what a page answers: the refusal's number or 0, the start, the number of rows, whether a next place is named, and that place
pub record PageTold : Type 0 where
  pub refusal : ℕ
  pub start : ℕ
  pub size : ℕ
  pub is_more : Bool
  pub next : ℕ

abbrev pub going_on : ℕ → ℕ → ℕ → PageTold
going_on start size next = record { refusal = 0; start = start; size = size; is_more = true; next = next }

abbrev pub last_page : ℕ → ℕ → PageTold
last_page start size = record { refusal = 0; start = start; size = size; is_more = false; next = 0 }

abbrev pub page_refused : ℕ → PageTold
page_refused n = record { refusal = n; start = 0; size = 0; is_more = false; next = 0 }

-- and the rows that it writes, from the table's first on
pub record PageGiven : Type 0 where
  pub told : PageTold
  pub rows : List Row

abbrev pub with_none : PageTold → PageGiven
with_none t = record { told = t; rows = [] }

-- 01: "The next place is the end of the last record taken if below the length, else none. Count 0 gives the start, no rows and no next place"
abbrev pub next_told : ℕ → ℕ → ℕ → Taken → PageTold
next_told n count start t =
    cond (eqb count 0) (last_page start 0)
    (cond (ltb t.end n) (going_on start (length t.rows) t.end) (last_page start (length t.rows)))

-- refusal 7: "the page's rows outnumber the lent table"
abbrev pub lent_to : ℕ → Option ℤ → ℕ → ℕ → ℕ → Taken → PageGiven
lent_to n before room count start t =
    cond (ltb room (length t.rows)) (with_none (page_refused 7))
    (record { told = next_told n count start t; rows = gapped before t.rows })

-- 01: "A page starts at the boundary search from its offset. If none is found it gives that offset, no rows, no next place"
abbrev pub page_of : (ℕ → Option ℕ) → (ℕ → List Row) → ℕ → Option ℤ → ℕ → ℕ → ℕ → SearchTold → PageGiven
page_of next rows n before offset count room t =
    cond t.is_found (lent_to n before room count t.offset (taken next rows n t.offset count))
    (with_none (cond (eqb t.refusal 0) (last_page offset 0) (page_refused t.refusal)))

unfoldable pub page_from : (ℕ → Option ℕ) → (ℕ → List Row) → ℕ → Option ℤ → ℕ → ℕ → ℕ → PageGiven
page_from next rows n before offset count room = page_of next rows n before offset count room (searched next n offset default_window)

abbrev pub page_at : Limits → List ℕ → List ℕ → Option ℤ → ℕ → ℕ → ℕ → PageGiven
page_at limits kinds s before offset count room = page_from (next_at limits kinds s) (rows_at kinds s) (length s) before offset count room

-- each refusal's number
abbrev pub page_refusal : PageError → ℕ
page_refusal TraceTooLong = 1
page_refusal WindowTooLong = 5
page_refusal TableTooShort = 7

-- each answer in the paper's numbers
abbrev pub going_or_last : ℕ → ℕ → Option ℕ → PageTold
going_or_last start size (Some next) = going_on start size next
going_or_last start size None = last_page start size

abbrev pub told_page : Result Page PageError → PageTold
told_page (Ok page) = going_or_last page.start page.size page.next
told_page (Err refusal) = page_refused (page_refusal refusal)
