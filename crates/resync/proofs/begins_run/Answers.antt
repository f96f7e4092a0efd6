-- `resync::begins_run` meets its contract, by the laws of Chain. Assumes nothing.
use mathlib.Core.Path.{refl, sym}
use native.Mathlib.Omega.{arith}
use Rattle.record.proofs.Answers.{next_none, next_one}
use Rattle.resync.proofs.Chain.{no_record, goes_on_lem, three, breaks_off, ends_run}
use Rattle.record.proofs.Valid.{record_steps}
use Rattle.resync.proofs.begins_run.Goals as goal

pub returns-in_default : goal.returns-in_default
returns-in_default c = sym (no_record _ _ _ (next_none _ _ _ _ _ c.in_default.ensures c.args.trace.fits refl))

pub loop-init : goal.loop-init
loop-init c = (omega arith, next_one _ _ _ _ _ c.in-Some.ensures refl)

pub returns-then-trace-at : goal.returns-then-trace-at
returns-then-trace-at c =
    sym
    (ends_run _ _ (record_steps _ _ _) _ _ c.if-trace-at.true
    c.loop.counter c.loop.invariant.0 (omega arith) c.loop.invariant.1)

pub returns-in_default-record_at : goal.returns-in_default-record_at
returns-in_default-record_at c =
    sym
    (breaks_off _ _ (record_steps _ _ _) _ _
    (next_none _ _ _ _ _ c.in_default-record_at.ensures c.args.trace.fits refl)
    (omega arith)
    c.loop.counter c.loop.invariant.0 (omega arith) c.loop.invariant.1)

pub loop-preserved : goal.loop-preserved
loop-preserved c = (
  omega arith,
  goes_on_lem _ 0 c.loop.counter _ c.loop.at _ c.loop.invariant.1 (next_one _ _ _ _ _ c.in-Some-record_at.ensures refl),
)

pub returns : goal.returns
returns c = sym (three _ _ c.loop.counter _ _ (omega arith) c.loop.invariant.1)
