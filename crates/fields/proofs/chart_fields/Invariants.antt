-- `fields::chart_fields` meets its contract: at each turn the rates from the channel that comes on are left to be put. Assumes nothing.
use lib.ListN.{drop}
use Rattle.speed.specs.Chart.{row_for}
use Rattle.text.proofs.Puts.{Left}
use Rattle.fields.specs.Fields.{fields_of}
use Rattle.fields.proofs.chart_fields.Given as goal

abbrev pub invariant-loop-channel : goal.invariant-loop-channel
invariant-loop-channel l = Left (fields_of (row_for l.region)) l.initial.out (fields_of (drop l.channel (row_for l.region))) l.out
