-- Reading page after page, each from the place that the last one named, over what a caller holds.
use Rattle.std.specs.Prelude.{ℕ, ◌+◌, ◌≤◌, ◌<◌, ℤ, pos, ◌-ℤ◌, length, take, get_or, Bool, true, ◌≡◌, Option, None, Result}
use mathlib.Core.List.{List, [], ◌∷◌, ◌++◌, flat_map, map}
use Rattle.record.specs.Record.{Limits}
use Rattle.rows.specs.declared.Row.{Row}
use Rattle.seam.specs.Walk.{walk}
use Rattle.steps.specs.Step.{gap_of, blank_row}
use Rattle.paging.specs.Page.{with_gap, PageTold, told_page, page_at}
use Rattle.paging.specs.declared.Page.{Page}
use Rattle.paging.specs.declared.PageError.{PageError}
use Rattle.cursor.specs.Table.{Answered}

-- a call of `frames_at` as its caller has it: the count asked for, the table that was lent, the answer, and the table afterwards
pub record Call : Type 0 where
  pub count : ℕ
  pub lent : List Row
  pub answer : Result Page PageError
  pub after : List Row

-- the answer in the paper's numbers
abbrev pub told : Call → PageTold
told c = told_page c.answer

-- the page's rows: the first `size` of the table that was lent
abbrev pub page_rows : Call → List Row
page_rows c = take (told c).size c.after

-- a call from a place, answered as `frames_at` promises; "any counts of at least 1"
pub record Asked (limits : Limits) (kinds s : List ℕ) (at : ℕ) (c : Call) : Type 0 where
  pub answered : Answered (page_at limits kinds s None at c.count (length c.lent)) c.answer c.lent c.after
  pub counted : 1 ≤ c.count

-- "room enough": refusal 7 was not given
abbrev pub Roomy : Call → Type 0
Roomy c = (told c).refusal ≡ 7 → ⊥

-- a call with the count and the table chosen for its place
pub record Chosen (counts : ℕ → ℕ) (tables : ℕ → List Row) (at : ℕ) (c : Call) : Type 0 where
  pub count_is : c.count ≡ counts at
  pub table_is : c.lent ≡ tables at

-- "read pages from there, each from the place the last one named": calls of a kind, one after the other, the first from a place; and whether the
-- last of them names a place to go on from
pub data Reading (call : ℕ → Call → Type 0) : ℕ → List Call → Bool → Type 0 where
  last : {at : ℕ} {c : Call} {goes : Bool} → call at c → (told c).is_more ≡ goes → Reading call at (c ∷ []) goes
  more : {at : ℕ} {c : Call} {calls : List Call} {goes : Bool} → call at c → (told c).is_more ≡ true
      → Reading call (told c).next calls goes → Reading call at (c ∷ calls) goes

-- the rows of some pages, joined
unfoldable pub joined : List Call → List Row
joined calls = flat_map page_rows calls

-- rows, gaps aside
unfoldable pub bare : List Row → List Row
bare rows = map (with_gap (pos 0)) rows

-- the rows of every record from a place on
unfoldable pub rows_from : (ℕ → Option ℕ) → (ℕ → List Row) → ℕ → ℕ → List Row
rows_from next rows n at = walk next (λ (end : ℕ). []) (λ (here : ℕ) (rest : List Row). rows here ++ rest) n at

-- the gaps of some rows, with the time before them: 01, "gap to the previous row's time (0 for the first)"
pub record Gaps (before : Option ℤ) (rows : List Row) : Type 0 where
  pub first : 0 < length rows → (get_or rows 0 blank_row).gap ≡ gap_of before (get_or rows 0 blank_row).millis
  pub others : (i : ℕ) → i + 1 < length rows → (get_or rows (i + 1) blank_row).gap ≡ (get_or rows (i + 1) blank_row).millis -ℤ (get_or rows i blank_row).millis
