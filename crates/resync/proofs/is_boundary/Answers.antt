-- `resync::is_boundary` meets its contract: a trace over the limit is refused first. Assumes nothing.
use borrow.Author.Rules.{rules}
use Rattle.layout.proofs.Limit.{over}
use Rattle.std.proofs.lemmas.Result.{err_from_is_err_and}
use Rattle.resync.proofs.Told.{too_long, judged}
use Rattle.resync.proofs.is_boundary.Goals as goal

pub returns-in_err-readable : goal.returns-in_err-readable
returns-in_err-readable c =
    let p = err_from_is_err_and c.from_residual.result c.from_residual.ensures.1 in
    rw (p.1) (too_long _ _ _ _ (over c.in_err-readable.ensures.fits.1))

pub returns : goal.returns
returns c = search (rules, judged)
