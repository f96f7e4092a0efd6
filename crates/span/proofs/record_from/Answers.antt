-- `span::record_from` meets its contract: what is found always has a record. Assumes nothing.
use mathlib.Core.Path.{refl}
use Rattle.std.proofs.lemmas.Result.{err_from_is_err_and}
use Rattle.std.specs.Prelude.{None, Some, Ok}
use Rattle.record.specs.Record.{plausible, told_record}
use Rattle.resync.proofs.Times.{has_record}
use Rattle.span.proofs.Answers.{no_record, one_record}
use Rattle.span.proofs.record_from.Goals as goal

pub returns-in_err-offset : goal.returns-in_err-offset
returns-in_err-offset c =
    let p = err_from_is_err_and c.from_residual.result c.from_residual.ensures.1 in
    rw (p.1, p.2) (no_record _ _ _ _ _ 0 c.in_err-offset.ensures)

pub returns-in_default : goal.returns-in_default
returns-in_default c =
    no_record _ _ _ _ 0 c.in_ok-offset.field-0.judged (rw c.in_default.is at c.in_ok-offset.ensures)

pub returns-in_default-record_at : goal.returns-in_default-record_at
returns-in_default-record_at c =
    absurd
    (has_record plausible c.args.trace.kinds.now c.args.trace.bytes.now c.args.from c.in-Some.offset c.in_ok-offset.field-0.judged (rw c.in-Some.is at c.in_ok-offset.ensures)
    (told_record (Ok None)) c.in_default-record_at.ensures refl)

pub returns : goal.returns
returns c =
    one_record _ _ _ _ c.in-Some.offset c.in_ok-offset.field-0.judged (rw c.in-Some.is at c.in_ok-offset.ensures)
    (told_record (Ok (Some c.in-Some-record_at.header))) c.in-Some-record_at.ensures _ _ refl refl refl
