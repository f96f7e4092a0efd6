-- `cursor::frames_at` meets its contract: of a trace over the limit no row is written. Assumes nothing.
use Rattle.layout.proofs.Limit.{over}
use Rattle.cursor.proofs.Fills.{refused}
use Rattle.cursor.proofs.frames_at.Goals as goal

pub returns-in_err-trace : goal.returns-in_err-trace
returns-in_err-trace c = refused _ _ _ _ (over c.in_err-trace.ensures.fits.1) _ c.from_residual.ensures _
