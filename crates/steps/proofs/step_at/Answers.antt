-- `steps::step_at` meets its contract: a trace over the limit is refused first. Assumes nothing.
use Rattle.layout.proofs.Limit.{over}
use Rattle.steps.proofs.Stepping.{too_long}
use Rattle.steps.proofs.step_at.Goals as goal

pub returns-in_err-readable : goal.returns-in_err-readable
returns-in_err-readable c = too_long _ _ _ _ (over c.in_err-readable.ensures.fits.1) c.from_residual.result c.from_residual.ensures
