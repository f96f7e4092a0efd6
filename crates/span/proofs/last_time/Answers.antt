-- `span::last_time` meets its contract. The loop's invariant: the last time from here on is the last time from the start. Assumes nothing.
use lib.IntN.{pos}
use lib.ListN.{length}
use mathlib.Core.Path.{sym, ◌∙◌}
use native.Mathlib.Omega.{arith}
use Rattle.record.specs.Record.{plausible}
use Rattle.span.proofs.Answers.{none_met, meets_of}
use Rattle.span.proofs.Spans.{last_none, one_more_met}
use Rattle.span.specs.Met.{meet_in}
use Rattle.span.proofs.last_time.Goals as goal

pub loop-met-preserved : goal.loop-met-preserved
loop-met-preserved c = (
  omega (arith, c.in-Some.ensures.further),
  c.loop-met.invariant.1
      ∙ one_more_met _ _ (meets_of plausible _ _) (length c.args.trace.bytes.now) c.loop-met.at (pos c.loop-met.last) (omega arith) _ _ _ (c.in-Some.ensures.met (omega arith)),
)

pub returns-in_default : goal.returns-in_default
returns-in_default c =
    sym
    (c.loop-met.invariant.1
    ∙ last_none (meet_in c.args.trace.kinds.now c.args.trace.bytes.now) _ (meets_of plausible _ _) _ c.loop-met.at _ (none_met _ _ (c.meet.ensures.met (omega arith)) c.in_default.is))
