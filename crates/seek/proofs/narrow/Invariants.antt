-- `seek::narrow` meets its contract. The loop's invariant: the halvings made and those to come are the definition's, and there are no more of them than bytes passed. Assumes nothing.
use Prim.Native.Nat.{◌+◌, ◌-◌, ◌≤◌}
use lib.ListN.{length}
use mathlib.Core.Path.{◌≡◌}
use Rattle.seek.proofs.Halvings.{plus}
use Rattle.span.specs.Met.{meet_in}
use Rattle.seek.specs.Seek.{narrowed}
use Rattle.seek.proofs.narrow.Given as goal

abbrev pub invariant-loop-trace : goal.invariant-loop-trace
invariant-loop-trace l =
    record {
      lo : l.bounds.lo ≤ length l.trace.bytes.now;
      hi : l.bounds.hi ≤ length l.trace.bytes.now;
      few : l.halvings + (l.bounds.hi - l.bounds.lo) ≤ length l.trace.bytes.now - l.first;
      so_far : narrowed (meet_in l.trace.kinds.now l.trace.bytes.now) l.target (length l.trace.bytes.now) l.first (length l.trace.bytes.now)
          ≡ plus l.halvings (narrowed (meet_in l.trace.kinds.now l.trace.bytes.now) l.target (length l.trace.bytes.now) l.bounds.lo l.bounds.hi);
    }

abbrev pub decreases-loop-trace : goal.decreases-loop-trace
decreases-loop-trace l = l.bounds.hi - l.bounds.lo
