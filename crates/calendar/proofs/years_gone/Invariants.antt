-- `calendar::years_gone` meets its contract. The invariant: the new year at hand is no later than the day. Assumes nothing.
use Prim.Native.Nat.{◌-◌, ◌≤◌}
use Rattle.ticks.specs.Ticks.{days_of}
use Rattle.calendar.proofs.years_gone.Given as goal

abbrev pub invariant-loop-n : goal.invariant-loop-n
invariant-loop-n l = days_of l.n ≤ l.days

abbrev pub decreases-loop-n : goal.decreases-loop-n
decreases-loop-n l = l.days - l.n
