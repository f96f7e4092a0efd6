-- The invariant of `seam::seam_at`: `records` valid records lead from the place to the one reached, each of some bytes. The measure is what is left
-- of the trace. Assumes nothing.
use Prim.Native.Nat.{◌+◌, ◌-◌, ◌≤◌}
use lib.ListN.{length}
use mathlib.Core.Path.{◌≡◌}
use Rattle.record.specs.Record.{plausible, next_at}
use Rattle.seam.specs.Seam.{reach, reached}
use Rattle.seam.proofs.seam_at.Given as goal

abbrev pub invariant-loop-header : goal.invariant-loop-header
invariant-loop-header l =
    let kinds = l.trace.kinds.now in let s = l.trace.bytes.now in let next = next_at plausible kinds s in
    (l.at ≤ length s) × (l.records ≤ l.at) × (reach next (length s) l.fn.place ≡ reached (reach next (length s) l.at).place (l.records + (reach next (length s) l.at).records))

abbrev pub decreases-loop-header : goal.decreases-loop-header
decreases-loop-header l = length l.trace.bytes.now - l.at
