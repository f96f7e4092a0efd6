-- `seek::seek_start` meets its contract, by what asking for the first record answers. Assumes nothing.
use Rattle.std.proofs.lemmas.Result.{err_from_is_err_and}
use Rattle.record.specs.Record.{plausible}
use Rattle.seek.proofs.Exits.{start_is, start_long}
use Rattle.span.specs.Met.{trace_of}
use Rattle.seek.proofs.seek_start.Goals as goal

pub returns-in_err-first_record : goal.returns-in_err-first_record
returns-in_err-first_record c =
    let p = err_from_is_err_and c.from_residual.result c.from_residual.ensures.1 in
    rw (p.1) (start_long (trace_of plausible c.args.trace.kinds.now c.args.trace.bytes.now) c.in_err-first_record.ensures)

pub returns : goal.returns
returns c =
    rw c.unwrap_or-lo.ensures (start_is (trace_of plausible c.args.trace.kinds.now c.args.trace.bytes.now) c.in_ok-first_record.field-0 c.in_ok-first_record.ensures)
