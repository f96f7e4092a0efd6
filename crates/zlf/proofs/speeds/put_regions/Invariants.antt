-- `zlf::speeds::put_regions` meets its contract. The invariant: the lines of the regions passed have been put. Assumes nothing.
use Rattle.text.specs.Put.{Puts}
use Rattle.zlf.specs.Chart.{lines_below}
use Rattle.zlf.proofs.speeds.put_regions.Given as goal

abbrev pub invariant-loop-region : goal.invariant-loop-region
invariant-loop-region l = Puts (lines_below l.plain l.region) l.initial.out l.out
