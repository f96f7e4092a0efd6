-- `premises::traces::put_zeros` meets its contract: so many zeros are put as there were turns. Assumes nothing.
use Rattle.text.proofs.Puts.{nothing, joined, renamed}
use Rattle.plain_examples.specs.Traces.{zeros}
use Rattle.premises.proofs.Turns.{one_more_zero}
use Rattle.premises.proofs.traces.put_zeros.Goals as goal

pub loop-init : goal.loop-init
unfolding zeros
loop-init c = nothing _

pub loop-preserved : goal.loop-preserved
loop-preserved c = renamed (one_more_zero c.loop.counter) (joined c.loop.invariant c.put_byte.ensures)
