-- `span::last_back` meets its contract. The loop's invariant: walking back from here on answers what walking back from the first place does. Assumes nothing.
use mathlib.Core.Path.{sym, ap, ◌∙◌}
use native.Mathlib.Omega.{arith}
use Rattle.record.specs.Record.{plausible}
use Rattle.std.specs.Prelude.{Some}
use Rattle.span.proofs.Answers.{none_met, meets_of}
use Rattle.span.proofs.Spans.{met_there, none_there, further_there}
use Rattle.span.specs.Met.{meet_in}
use Rattle.span.proofs.last_back.Goals as goal

pub returns-in-Some : goal.returns-in-Some
returns-in-Some c =
    sym
    (c.loop-met.invariant.1
    ∙ met_there (meet_in c.args.trace.kinds.now c.args.trace.bytes.now) _ (meets_of plausible _ _) _ c.loop-met.back _ c.distance.ensures _ _ _ (c.in-Some.ensures.met (omega arith))
    ∙ ap (λ z. Some z) (sym c.last_time.ensures))

pub returns-then-len-back : goal.returns-then-len-back
returns-then-len-back c =
    sym
    (c.loop-met.invariant.1
    ∙ none_there (meet_in c.args.trace.kinds.now c.args.trace.bytes.now) _ (meets_of plausible _ _) _ c.loop-met.back _ c.distance.ensures (none_met _ _ (c.meet.ensures.met (omega arith)) c.in_default.is) c.if-len-back.true)

pub loop-met-preserved : goal.loop-met-preserved
loop-met-preserved c = (
  omega arith,
  c.loop-met.invariant.1
      ∙ further_there (meet_in c.args.trace.kinds.now c.args.trace.bytes.now) _ (meets_of plausible _ _) _ c.loop-met.back _ c.distance.ensures c.loop-met.invariant.0 (omega arith) (none_met _ _ (c.meet.ensures.met (omega arith)) c.in_default.is) c.if-len-back.false,
)
