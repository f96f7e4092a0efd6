-- `premises::traces::put_zeros` meets its contract: so many zeros are put as there were turns. Assumes nothing.
use Rattle.text.specs.Put.{Puts}
use Rattle.plain_examples.specs.Traces.{zeros}
use Rattle.premises.proofs.traces.put_zeros.Given as goal

abbrev pub invariant-loop : goal.invariant-loop
invariant-loop l = Puts (zeros l.counter) l.initial.out l.out
