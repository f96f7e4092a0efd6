-- `resync::next_record_at` meets its contract: a trace over the limit is refused first. Assumes nothing.
use Rattle.layout.proofs.Limit.{over}
use Rattle.std.proofs.lemmas.Result.{err_from_is_err_and}
use Rattle.resync.proofs.Searched.{trace_too_long}
use Rattle.resync.proofs.next_record_at.Goals as goal

pub returns-in_err-readable : goal.returns-in_err-readable
returns-in_err-readable c =
    let p = err_from_is_err_and c.from_residual.result c.from_residual.ensures.1 in
    rw (p.1, p.2) (trace_too_long _ _ _ _ (over c.in_err-readable.ensures.fits.1))
