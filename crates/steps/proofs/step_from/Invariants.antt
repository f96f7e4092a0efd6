-- The invariant of `steps::step_from`: the place reached is one that a page comes to, and gives the same step as the place given. The measure is what
-- is left of the trace. Assumes nothing.
use Prim.Native.Nat.{◌-◌}
use lib.ListN.{length}
use mathlib.Core.Path.{◌≡◌}
use Rattle.record.specs.Record.{plausible}
use Rattle.steps.specs.Step.{Sound, step_on}
use Rattle.steps.proofs.step_from.Given as goal

abbrev pub invariant-loop-header : goal.invariant-loop-header
invariant-loop-header l =
    let kinds = l.trace.kinds.now in let s = l.trace.bytes.now in
    Sound l.at × (step_on plausible kinds s l.at ≡ step_on plausible kinds s l.fn.place)

abbrev pub decreases-loop-header : goal.decreases-loop-header
decreases-loop-header l = length l.trace.bytes.now - l.at.offset
