-- `span::first_record` meets its contract, by what the search for the first record met. Assumes nothing.
use borrow.Author.Rules.{rules}
use Rattle.layout.proofs.Limit.{over}
use Rattle.std.proofs.lemmas.Result.{err_from_is_err_and}
use Rattle.record.specs.Record.{plausible}
use Rattle.span.proofs.Mapped.{mapped}
use Rattle.span.proofs.Exits.{first_long, first_is}
use Rattle.span.specs.Met.{trace_of}
use Rattle.span.proofs.first_record.Goals as goal

pub returns-in_err-readable : goal.returns-in_err-readable
returns-in_err-readable c =
    let p = err_from_is_err_and c.from_residual.result c.from_residual.ensures.1 in
    rw (p.1) (first_long (trace_of plausible c.args.trace.kinds.now c.args.trace.bytes.now) (over c.in_err-readable.ensures.fits.1))

pub returns : goal.returns
returns c =
    first_is (trace_of plausible c.args.trace.kinds.now c.args.trace.bytes.now) (search rules) c.meet.result (search rules) c.map.result (mapped _ _ _ (search rules))
