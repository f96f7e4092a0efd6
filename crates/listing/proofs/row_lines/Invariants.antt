-- `listing::row_lines` meets its contract: at each turn the lines of the rows from the one that comes on are left to be put. Assumes nothing.
use mathlib.Core.List.{flat_map}
use lib.ListN.{drop}
use Rattle.text.proofs.Puts.{Left}
use Rattle.lines.specs.Lines.{row_text}
use Rattle.listing.proofs.row_lines.Given as goal

abbrev pub invariant-loop-row : goal.invariant-loop-row
invariant-loop-row l = Left (flat_map row_text l.rows) l.initial.out (flat_map row_text (drop l.row-index l.rows)) l.out
