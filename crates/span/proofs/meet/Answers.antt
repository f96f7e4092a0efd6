-- `span::meet` meets its contract: the search is not refused, and goes on. Assumes nothing.
use Rattle.span.proofs.Answers.{answers, further_on}
use Rattle.span.proofs.meet.Goals as goal

pub returns-clause-met : goal.returns-clause-met
returns-clause-met c near = rw c.unwrap_or.ensures (answers _ _ _ c.args.trace.fits near _ c.record_from.ensures)

pub returns-clause-further : goal.returns-clause-further
returns-clause-further c = rw c.unwrap_or.ensures (further_on _ _ _ c.record_from.result c.record_from.ensures)
