-- `seek::narrow` meets its contract. The loop's invariant: the halvings made and those to come are the definition's, and there are no more of them than bytes passed. Assumes nothing.
use mir.Syntax.{w64}
use mir.ValLaws.{to_z-of_z}
use lib.ListN.{length}
use mathlib.Core.Path.{ap, ◌∙◌}
use mir.Val.{to_z, of_z}
use native.Mathlib.Omega.{arith}
use Rattle.record.specs.Record.{plausible}
use Rattle.seek.proofs.Halvings.{again, narrowed_enough}
use Rattle.span.proofs.Answers.{meets_of}
use Rattle.span.specs.Met.{meet_in}
use Rattle.seek.proofs.narrow.Goals as goal

pub loop-trace-preserved : goal.loop-trace-preserved
loop-trace-preserved c =
    let b = c.loop-trace.bounds in
    let turn : _ =
    again (meet_in c.args.trace.kinds.now c.args.trace.bytes.now) (length c.args.trace.bytes.now) (meets_of plausible c.args.trace.kinds.now c.args.trace.bytes.now) (to_z w64 (of_z w64 c.args.target))
    (length c.args.trace.bytes.now) c.args.first (length c.args.trace.bytes.now) b.lo b.hi c.loop-trace.halvings c.loop-trace.invariant.so_far
    (omega arith) (omega arith) (omega arith) (omega arith) _ ((c.meet.ensures.met (omega arith)) ∙ ap (meet_in c.args.trace.kinds.now c.args.trace.bytes.now) c.middle.ensures) _ _ c.halved-bounds.ensures.lo c.halved-bounds.ensures.hi in
    record { lo = turn.0; hi = turn.1; few = omega (arith, turn.2); so_far = turn.3 }

pub returns-clause-keeps : goal.returns-clause-keeps
returns-clause-keeps c =
    narrowed_enough (meet_in c.args.trace.kinds.now c.args.trace.bytes.now) (length c.args.trace.bytes.now) (meets_of plausible c.args.trace.kinds.now c.args.trace.bytes.now) c.args.target
    (length c.args.trace.bytes.now) c.args.first (length c.args.trace.bytes.now) c.loop-trace.bounds.lo c.loop-trace.bounds.hi c.loop-trace.halvings
    (rw (to_z-of_z w64 c.args.target c.ranges.target) at c.loop-trace.invariant.so_far) (omega arith)
