-- `seam::seam_check` meets its contract: a trace over the limit is refused first. Assumes nothing.
use Rattle.layout.proofs.Limit.{over}
use Rattle.seam.proofs.Seams.{refused}
use Rattle.seam.proofs.seam_check.Goals as goal

pub returns-in_err-readable : goal.returns-in_err-readable
returns-in_err-readable c = refused _ _ _ c.from_residual.result c.from_residual.ensures (over c.in_err-readable.ensures.fits.1)
