-- `seek::walk` meets its contract. The loop's invariant: the walk from here on answers what the walk from the start does. Assumes nothing.
use mir.Syntax.{w64}
use mir.ValLaws.{to_z-of_z}
use lib.ListN.{length}
use mathlib.Core.Path.{sym, ◌∙◌}
use native.Mathlib.Omega.{arith}
use Rattle.record.specs.Record.{plausible}
use Rattle.seek.proofs.Walks.{none_met_at, passes, answers}
use Rattle.span.proofs.Answers.{none_met, meets_of}
use Rattle.span.specs.Met.{meet_in}
use Rattle.seek.proofs.walk.Goals as goal

pub returns-then-not-is_earlier : goal.returns-then-not-is_earlier
returns-then-not-is_earlier c =
    let z = to_z-of_z w64 c.args.target c.ranges.target in
    sym
    (rw z at c.loop-met.invariant.1
    ∙ answers (meet_in c.args.trace.kinds.now c.args.trace.bytes.now) _ (meets_of plausible _ _) c.args.target (length c.args.trace.bytes.now) c.loop-met.at (omega arith) (omega (arith, c.in-Some.ensures.further)) _ _ _ (c.in-Some.ensures.met (omega arith)) (sym (rw z at c.if-not-is_earlier.ensures)))

pub loop-met-preserved : goal.loop-met-preserved
loop-met-preserved c = (
  omega (arith, c.in-Some.ensures.further),
  c.loop-met.invariant.1
      ∙ passes (meet_in c.args.trace.kinds.now c.args.trace.bytes.now) _ (meets_of plausible _ _) _ (length c.args.trace.bytes.now) c.loop-met.at (omega arith) (omega (arith, c.in-Some.ensures.further)) _ _ _ (c.in-Some.ensures.met (omega arith)) (sym c.if-not-is_earlier.ensures),
)

pub returns-in_default : goal.returns-in_default
returns-in_default c =
    sym
    (rw (to_z-of_z w64 c.args.target c.ranges.target) at c.loop-met.invariant.1
    ∙ none_met_at (meet_in c.args.trace.kinds.now c.args.trace.bytes.now) _ (meets_of plausible _ _) c.args.target (length c.args.trace.bytes.now) c.loop-met.at (none_met _ _ (c.meet.ensures.met (omega arith)) c.in_default.is))
