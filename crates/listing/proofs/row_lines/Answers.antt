-- `listing::row_lines` meets its contract: at each turn the lines of the rows from the one that comes on are left to be put. Assumes nothing.
use borrow.Author.Rules.{rules}
use lib.ListN.{drop_of_length-le}
use mathlib.Core.List.{flat_map}
use mathlib.Core.Path.{ap}
use Rattle.text.proofs.Puts.{less_left, none_left}
use Rattle.lines.specs.Lines.{row_text}
use Rattle.listing.proofs.Tables.{next_row}
use Rattle.listing.proofs.row_lines.Goals as goal

pub loop-row-preserved : goal.loop-row-preserved
loop-row-preserved c = less_left c.loop-row.invariant (next_row c.args.rows.now c.loop-row.row-index _ (search rules)) c.row_line.ensures

pub returns : goal.returns
unfolding flat_map
returns c = none_left c.loop-row.invariant (ap (flat_map row_text) (drop_of_length-le c.args.rows.now {i = c.loop-row.row-index} (search rules)))
