-- Every figure that document 01 marks P holds: one statement over the list of them, by computation. Assumes nothing.
use mathlib.Core.Path.{refl}
use Rattle.bracket.specs.Bracket.{good, walk, bodies_from}
use Rattle.beam.specs.Beam.{starts, repeats, beam_count}
use Rattle.speed.specs.Speed.{among, speed_for}
use Rattle.zniffer_core.specs.Run.{core_step_of}
use Rattle.zniffer.specs.Parse.{zeros, step_of, run_from}
use Rattle.marked.specs.Marked.{AllHold, all, ◌and◌, marked}

pub hold : AllHold marked
unfolding bodies_from walk good beam_count repeats starts speed_for among zeros run_from step_of core_step_of
hold = refl and refl and refl and refl and refl and refl and refl and refl and refl and refl and refl and refl and refl and refl and refl and all
