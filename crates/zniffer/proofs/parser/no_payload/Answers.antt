-- `parser::no_payload` meets its contract. Assumes nothing.
use mathlib.Core.Path.{refl}
use Rattle.zniffer.specs.Parse.{zeros}
use Rattle.zniffer.proofs.parser.no_payload.Goals as goal

pub returns : goal.returns
unfolding zeros
returns c = refl
