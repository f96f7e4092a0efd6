-- `calendar::months_gone` meets its contract. The invariant: the month at hand begins no later than the day, and the search goes on from it.
-- Assumes nothing.
use Rattle.std.proofs.Common.{◌≡◌, ◌-◌, ◌≤◌}
use Rattle.calendar.specs.Calendar.{days_before, first_from, next_month_after, months_gone}
use Rattle.calendar.proofs.months_gone.Given as goal

abbrev pub invariant-loop-m : goal.invariant-loop-m
invariant-loop-m l = (days_before l.leap l.m ≤ l.day) × (months_gone l.leap l.day ≡ first_from (next_month_after l.leap l.day) (11 - l.m) l.m)
