-- The date of an instant leads back to it: the milliseconds to that date are the instant. So no two instants have one date. Assumes nothing.
use Prim.Native.Nat.{ℕ, zero, suc, ◌+◌, ◌-◌, ◌*◌, ◌/◌, ◌%◌, ◌≤◌, ◌<◌}
use borrow.Author.Tests.{ltb-true, ltb-false}
use lib.Dec.{ltb}
use mathlib.Core.Bool.{Bool}
use mathlib.Core.Path.{◌≡◌}
use native.Mathlib.Omega.{arith}
use Rattle.choice.proofs.Choice.{either}
use Rattle.ticks.specs.Ticks.{days_of}
use Rattle.calendar.specs.Calendar.{per_day, first_from, years_gone, leap_after, days_before, next_month_after, months_gone, day_of_year, month_of, dated, date_of, days_to, millis_to}
use Rattle.calendar.proofs.Searching.{here, on, last}
use Rattle.calendar.proofs.Years.{years_are}
use Rattle.calendar.proofs.Months.{none_before}

-- a number of years whose new year is no later than a day, and the next one later
record Around (day : ℕ) : Type 0 where
  years : ℕ
  low : days_of years ≤ day
  high : day < days_of (years + 1)

year_longer : (n : ℕ) → days_of n < days_of (n + 1)
year_longer n = omega arith

same_year : (day n : ℕ) → days_of n ≤ day → suc day < days_of (n + 1) → Around (suc day)
same_year day n l h = record { years = n; low = omega arith; high = h }

new_year : (day n : ℕ) → day < days_of n → days_of n ≤ suc day → Around (suc day)
new_year day n l h = let g = year_longer n in record { years = n; low = h; high = omega arith }

next_day : (day : ℕ) → Around day → Around (suc day)
next_day day a =
    either (ltb (suc day) (days_of (a.years + 1)))
    (λ t. same_year day a.years a.low (ltb-true (suc day) (days_of (a.years + 1)) t))
    (λ t. new_year day (a.years + 1) a.high (ltb-false (suc day) (days_of (a.years + 1)) t))

around : (day : ℕ) → Around day
around zero = record { years = 0; low = omega arith; high = omega arith }
around (suc day) = next_day day (around day)

year_low : (day : ℕ) → days_of (years_gone day) ≤ day
year_low day = let a = around day in rw (years_are day a.years a.low a.high) a.low

-- the month that a search ends with begins no later than the day
month_from : (leap : Bool) (day turns n : ℕ) → days_before leap n ≤ day → days_before leap (first_from (next_month_after leap day) turns n) ≤ day
month_from leap day zero n h = rw (last (next_month_after leap day) n) h
month_from leap day (suc turns) n h =
    either (next_month_after leap day n)
    (λ t. rw (here (next_month_after leap day) (suc turns) n t) h)
    (λ t. rw (on (next_month_after leap day) turns n t) (month_from leap day turns (n + 1) (ltb-false _ _ t)))

month_low : (leap : Bool) (day : ℕ) → days_before leap (months_gone leap day) ≤ day
unfolding months_gone
month_low leap day = let z = none_before leap in month_from leap day 11 0 (omega arith)

-- one more and one less
back : (n : ℕ) → n + 1 - 1 ≡ n
back n = omega arith

days_back : (day : ℕ) → days_to (years_gone day + 1) (month_of day + 1) (day_of_year day - days_before (leap_after (years_gone day)) (month_of day) + 1) ≡ day
days_back day =
    let y = year_low day in
    let m = month_low (leap_after (years_gone day)) (day_of_year day) in
    rw (back (years_gone day)) (rw (back (month_of day)) (omega arith))

time_back : (rest : ℕ) → rest < per_day → 3600000 * (rest / 3600000) + 60000 * (rest / 60000 % 60) + 1000 * (rest / 1000 % 60) + rest % 1000 ≡ rest
time_back rest h = omega arith

pub there_and_back : (instant : ℕ) → millis_to (date_of instant) ≡ instant
unfolding dated
there_and_back i =
    let d = days_back (i / per_day) in
    let t = time_back (i % per_day) (omega arith) in
    rw d (rw t (omega arith))
