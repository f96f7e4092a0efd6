-- What a caller holds after a call is the page: the first `size` rows of the table are the page's rows, for every count and room. Assumes nothing.
use Prim.Native.Nat.{ℕ}
use lib.IntN.{ℤ}
use lib.ListN.{length, take, drop}
use lib.Seq.{take_at}
use mathlib.Core.List.{List}
use Rattle.std.specs.Prelude.{Option}
use mathlib.Core.Path.{◌≡◌, sym, ap, ◌∙◌}
use Rattle.record.proofs.Steps.{Steps}
use Rattle.rows.specs.declared.Row.{Row}
use Rattle.paging.proofs.Sizes.{page_sized}
use Rattle.paging.specs.Page.{PageTold, PageGiven, page_from}
use Rattle.cursor.specs.Reading.{Call, told, page_rows}
use Rattle.cursor.specs.Table.{Answered}

module _ (next : ℕ → Option ℕ) (rows : ℕ → List Row) (n : ℕ) (steps : Steps next n) (before : Option ℤ) (at : ℕ) (c : Call) where
  abbrev given : PageGiven
  given = page_from next rows n before at c.count (length c.lent)

  pub rows_held : Answered given c.answer c.lent c.after → page_rows c ≡ given.rows
  rows_held answered =
      let size : length given.rows ≡ (told c).size = sym (page_sized next rows n steps before c.count (length c.lent) at) ∙ ap (λ (t : PageTold). t.size) (sym answered.told) in
      ap (take (told c).size) answered.rows ∙ take_at given.rows (drop (length given.rows) c.lent) (told c).size size
