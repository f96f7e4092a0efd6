-- `zlf::speeds::put_regions` meets its contract. The invariant: the lines of the regions passed have been put. Assumes nothing.
use native.Mathlib.Numerals.{add-one}
use Rattle.text.proofs.Puts.{nothing, joined}
use Rattle.zlf.specs.Chart.{lines_below}
use Rattle.zlf.proofs.speeds.put_regions.Goals as goal

pub loop-region-init : goal.loop-region-init
unfolding lines_below
loop-region-init c = nothing _

pub loop-region-preserved : goal.loop-region-preserved
unfolding lines_below
loop-region-preserved c = rw add-one (joined c.loop-region.invariant c.put_region.ensures)
