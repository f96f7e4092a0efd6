-- `zlf::marks::Mark::later` meets its contract. The invariant: as many valid records as are passed lead from the earlier place to the one reached. The
-- measure is what is left to the later place. Assumes nothing.
use Prim.Native.Nat.{◌-◌}
use lib.ListN.{length}
use Rattle.record.specs.Record.{plausible, next_at}
use Rattle.zlf.proofs.Passing.{Passed}
use Rattle.zlf.proofs.marks.Mark.later.Given as goal

abbrev pub invariant-loop-at : goal.invariant-loop-at
invariant-loop-at l = Passed (next_at plausible l.self.trace.kinds.now l.self.trace.bytes.now) (length l.self.trace.bytes.now) l.self.place l.at l.passed

abbrev pub decreases-loop-at : goal.decreases-loop-at
decreases-loop-at l = l.place - l.at
