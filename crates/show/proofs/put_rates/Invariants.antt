-- `show::put_rates` meets its contract: at each turn the rates from the channel that comes on are left to be put. Assumes nothing.
use lib.ListN.{drop}
use Rattle.speed.specs.Chart.{row_for}
use Rattle.text.proofs.Puts.{Left}
use Rattle.show.specs.Person.{rates_text}
use Rattle.show.proofs.put_rates.Given as goal

abbrev pub invariant-loop-channel : goal.invariant-loop-channel
invariant-loop-channel l = Left (rates_text (row_for l.region)) l.initial.out (rates_text (drop l.channel (row_for l.region))) l.out
