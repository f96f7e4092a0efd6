-- `resync::record_time_at` meets its contract: what is found always has a record. Assumes nothing.
use borrow.Author.Rules.{rules}
use Rattle.layout.proofs.Limit.{over}
use Rattle.std.proofs.lemmas.Result.{err_from_is_err_and}
use Rattle.resync.proofs.Searched.{trace_too_long}
use Rattle.resync.proofs.Times.{no_time_lem, time, has_record}
use Rattle.std.specs.Prelude.{None, Some, Ok}
use mathlib.Core.Path.{refl}
use Rattle.record.specs.Record.{plausible, told_record}
use Rattle.resync.proofs.record_time_at.Goals as goal

pub returns-in_err-trace : goal.returns-in_err-trace
returns-in_err-trace c =
    let p = err_from_is_err_and c.from_residual.result c.from_residual.ensures.1 in
    rw (p.1, p.2) (no_time_lem _ _ _ _ 1 _ (trace_too_long _ _ _ _ (over c.in_err-trace.ensures.fits.1)))

pub returns-in_err-at : goal.returns-in_err-at
returns-in_err-at c =
    let p = err_from_is_err_and c.from_residual-in_err-at.result c.from_residual-in_err-at.ensures.1 in
    rw (p.1, p.2) (no_time_lem _ _ _ _ _ 0 (search rules))

pub returns-in_default : goal.returns-in_default
returns-in_default c =
    let none = rw c.in_default.is at c.in_ok-at.ensures in
    no_time_lem _ _ _ _ 0 c.in_ok-at.field-0.judged (search rules)

pub returns-in_default-record_at : goal.returns-in_default-record_at
returns-in_default-record_at c =
    let some = rw c.in-Some.is at c.in_ok-at.ensures in
    absurd (has_record plausible c.args.trace.kinds.now c.args.trace.bytes.now c.args.offset c.in-Some.at c.in_ok-at.field-0.judged (search rules) (told_record (Ok None)) (search rules) refl)

pub returns : goal.returns
returns c =
    let some = rw c.in-Some.is at c.in_ok-at.ensures in
    time _ _ _ _ c.in-Some.at c.in_ok-at.field-0.judged (search rules) (told_record (Ok (Some c.in-Some-record_at.header))) (search rules) c.in-Some-record_at.header.unix_millis refl refl
