-- `steps::step_within` meets its contract: by the test of the place. Assumes nothing.
use mathlib.Core.Path.{sym}
use Rattle.steps.proofs.Stepping.{no_place, sound_of}
use Rattle.steps.proofs.step_within.Goals as goal

pub returns-then-is_unsound : goal.returns-then-is_unsound
returns-then-is_unsound c = no_place _ _ _ _ c.args.trace.fits (sym c.if-is_unsound.ensures)

pub step_from-requires : goal.step_from-requires
step_from-requires c = sound_of _ (sym c.if-is_unsound.ensures)
