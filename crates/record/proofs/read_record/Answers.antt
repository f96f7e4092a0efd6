-- `record::read_record` meets its contract: a trace over the limit is refused first. Assumes nothing.
use Rattle.layout.proofs.Limit.{over}
use Rattle.record.proofs.Ways.{too_long}
use Rattle.record.proofs.read_record.Goals as goal

pub returns-in_err-readable : goal.returns-in_err-readable
returns-in_err-readable c = too_long _ _ _ _ (over c.in_err-readable.ensures.fits.1) c.from_residual.result c.from_residual.ensures.0
