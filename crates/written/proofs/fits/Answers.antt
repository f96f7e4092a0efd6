-- `written::fits` meets its contract: the test of all pairs of bytes is the form's. Assumes nothing.
use Rattle.std.proofs.Common.{rules}
use Rattle.written.proofs.Reading.{by_bytes}
use Rattle.written.proofs.fits.Goals as goal

pub returns-then-text-form : goal.returns-then-text-form
returns-then-text-form c = by_bytes _ _ c.all.result c.if-text-form.true (λ e. search rules) (λ e. search rules)
