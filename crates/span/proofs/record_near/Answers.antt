-- `span::record_near` meets its contract: a trace over the limit is refused first. Assumes nothing.
use Rattle.layout.proofs.Limit.{over}
use Rattle.std.proofs.lemmas.Result.{err_from_is_err_and}
use Rattle.resync.proofs.Searched.{trace_too_long}
use Rattle.span.proofs.Answers.{no_record}
use Rattle.span.proofs.record_near.Goals as goal

pub returns-in_err-readable : goal.returns-in_err-readable
returns-in_err-readable c =
    let p = err_from_is_err_and c.from_residual.result c.from_residual.ensures.1 in
    rw (p.1, p.2) (no_record _ _ _ _ 1 0 (trace_too_long _ _ _ _ (over c.in_err-readable.ensures.fits.1)))
