-- The lines of rows, one after the other. Assumes nothing.
use Prim.Native.Nat.{ℕ, ◌+◌, ◌<◌}
use lib.ListN.{length, get_or, drop}
use lib.Seq.{drop-cons}
use mathlib.Core.List.{List, ◌++◌, flat_map}
use mathlib.Core.Path.{◌≡◌, ap}
use native.Mathlib.Numerals.{add-one}
use Rattle.rows.specs.declared.Row.{Row}
use Rattle.lines.specs.Lines.{row_text}

-- the lines of the rows from a place on are that of the row there and those of the rows after it
pub next_row : (rows : List Row) (i : ℕ) (d : Row) → i < length rows
    → flat_map row_text (drop i rows) ≡ row_text (get_or rows i d) ++ flat_map row_text (drop (i + 1) rows)
unfolding flat_map
next_row rows i d h = rw (add-one i) (ap (flat_map row_text) (drop-cons rows i d h))
