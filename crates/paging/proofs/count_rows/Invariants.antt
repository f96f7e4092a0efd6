-- The invariant of `paging::count_rows`: the rows counted and those still to be taken from the place reached are the page's, and no more are counted
-- than bytes are passed. The measure is what is left of the trace. Assumes nothing.
use Prim.Native.Nat.{◌-◌, ◌≤◌}
use lib.ListN.{length}
use Rattle.record.specs.Record.{plausible, next_at}
use Rattle.rows.specs.Rows.{rows_at}
use Rattle.paging.proofs.Counting.{Counts}
use Rattle.paging.proofs.count_rows.Given as goal

abbrev pub invariant-loop-total : goal.invariant-loop-total
invariant-loop-total l =
    let kinds = l.trace.kinds.now in let s = l.trace.bytes.now in
    (l.at ≤ length s) × (l.total ≤ l.at) × Counts (next_at plausible kinds s) (rows_at kinds s) (length s) l.fn.start l.fn.count l.at l.total

abbrev pub decreases-loop-total : goal.decreases-loop-total
decreases-loop-total l = length l.trace.bytes.now - l.at
