-- `zlf::info::walked` meets its contract. The invariant: the records passed lead from the header's end to the place reached, and each kind's sums
-- with those still to come are the whole. The measure is what is left of the trace. Assumes nothing.
use Prim.Native.Nat.{ℕ, ◌-◌}
use lib.ListN.{length, get_or}
use mathlib.Core.Path.{◌≡◌}
use Rattle.layout.specs.Layout.{header_size}
use Rattle.record.specs.Record.{plausible, next_at}
use Rattle.zlf.specs.Totals.{nothing}
use Rattle.zlf.proofs.Passing.{Passed}
use Rattle.zlf.proofs.Sums.{Sums}
use Rattle.zlf.proofs.info.walked.Given as goal

abbrev pub invariant-loop-found : goal.invariant-loop-found
invariant-loop-found l =
    let kinds = l.opened.trace.kinds.now in let s = l.opened.trace.bytes.now in
    record {
      passed : Passed (next_at plausible kinds s) (length s) header_size l.at l.records;
      sums : (k : ℕ) → Sums kinds s k (get_or l.counts k nothing) l.at;
      kinds : length l.counts ≡ 5;
    }

abbrev pub decreases-loop-found : goal.decreases-loop-found
decreases-loop-found l = length l.opened.trace.bytes.now - l.at
