-- The Gregorian calendar over instants, which are milliseconds from midnight on 1 January of the year 1.
use Rattle.std.specs.Prelude.{ℕ, zero, suc, ◌+◌, ◌-◌, ◌*◌, ◌/◌, ◌%◌, leb, ltb, eqb, get_or, take, Bool, cond, ◌&&◌, List, [], ◌∷◌, Option, None, Some}
use Rattle.ticks.specs.Ticks.{days_of}
use Rattle.calendar.specs.declared.Date.{Date}

-- a day's milliseconds
abbrev pub per_day : ℕ
per_day = 24 * 60 * 60 * 1000

-- the first number from n on that passes a test, or the one after so many turns
unfoldable pub first_from : (ℕ → Bool) → ℕ → ℕ → ℕ
first_from test zero n = n
first_from test (suc turns) n = cond (test n) n (first_from test turns (n + 1))

-- whether the new year after n years and one more comes after a day
abbrev pub next_year_after : ℕ → ℕ → Bool
next_year_after day n = ltb day (days_of (n + 1))

-- the years that have gone by on a day: the first number for which the next new year comes after the day. A year has a day at least, so
-- that as many turns as days are enough (`years_are` of proofs/Years.antt)
unfoldable pub years_gone : ℕ → ℕ
years_gone day = first_from (next_year_after day) day 0

-- a leap year has 366 days: whether the year after n years is one
abbrev pub leap_after : ℕ → Bool
leap_after n = eqb (days_of (n + 1)) (days_of n + 366)

-- the days of the twelve months
abbrev pub month_days : Bool → List ℕ
month_days leap =
    31 ∷ cond leap 29 28 ∷ 31 ∷ 30 ∷ 31 ∷ 30 ∷ 31 ∷ 31 ∷ 30 ∷ 31 ∷ 30 ∷ 31 ∷ []

unfoldable pub sum : List ℕ → ℕ
sum [] = 0
sum (n ∷ ns) = n + sum ns

-- the days of the first months of a year
unfoldable pub days_before : Bool → ℕ → ℕ
days_before leap months = sum (take months (month_days leap))

-- the months that have gone by on a day of the year, counted from 0: the first number for which the next month comes after the day
abbrev pub next_month_after : Bool → ℕ → ℕ → Bool
next_month_after leap day m = ltb day (days_before leap (m + 1))

unfoldable pub months_gone : Bool → ℕ → ℕ
months_gone leap day = first_from (next_month_after leap day) 11 0

-- the day of the year of a day
abbrev pub day_of_year : ℕ → ℕ
day_of_year day = day - days_of (years_gone day)

abbrev pub month_of : ℕ → ℕ
month_of day = months_gone (leap_after (years_gone day)) (day_of_year day)

-- the date of a day, at so many milliseconds of it
unfoldable pub dated : ℕ → ℕ → Date
dated day rest =
    record {
      year = years_gone day + 1;
      month = month_of day + 1;
      day = day_of_year day - days_before (leap_after (years_gone day)) (month_of day) + 1;
      hour = rest / 3600000;
      minute = rest / 60000 % 60;
      second = rest / 1000 % 60;
      milli = rest % 1000;
    }

-- the date and the time of day at an instant
abbrev pub date_of : ℕ → Date
date_of instant = dated (instant / per_day) (instant % per_day)

-- the days of a year's month, counted from 1
abbrev pub length_of : ℕ → ℕ → ℕ
length_of year month = get_or (month_days (leap_after (year - 1))) (month - 1) 0

-- whether the calendar has a day, in a year that four digits write; the year 0 is none of the calendar's
abbrev pub is_day : ℕ → ℕ → ℕ → Bool
is_day year month day =
    leb 1 year && (leb year 9999 && (leb 1 month && (leb month 12 && (leb 1 day && leb day (length_of year month)))))

abbrev pub is_time : ℕ → ℕ → ℕ → ℕ → Bool
is_time hour minute second milli = ltb hour 24 && (ltb minute 60 && (ltb second 60 && ltb milli 1000))

abbrev pub is_date : Date → Bool
is_date d = is_day d.year d.month d.day && is_time d.hour d.minute d.second d.milli

-- the days of the years before, of the months before in its year, and of the days before in its month
abbrev pub days_to : ℕ → ℕ → ℕ → ℕ
days_to year month day = days_of (year - 1) + days_before (leap_after (year - 1)) (month - 1) + (day - 1)

-- those days, and the time of day
abbrev pub millis_to : Date → ℕ
millis_to d =
    per_day * days_to d.year d.month d.day + (3600000 * d.hour + 60000 * d.minute + 1000 * d.second + d.milli)

-- the instant of a date, if the calendar has it
unfoldable pub instant_of : Date → Option ℕ
instant_of d = cond (is_date d) (Some (millis_to d)) None
