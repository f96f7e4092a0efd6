-- Times as people and scripts write them: ISO 8601 in UTC, or milliseconds since the Unix epoch.
use Rattle.std.specs.Prelude.{ℕ, ◌+◌, ◌-◌, ◌*◌, ◌/◌, ◌%◌, leb, eqb, get_or, length, drop, Bool, true, false, cond, ◌&&◌, List, [], ◌∷◌, Option, None, Some}
use Rattle.ticks.specs.Ticks.{epoch, per_millisecond}
use Rattle.calendar.specs.Calendar.{instant_of}
use Rattle.calendar.specs.declared.Date.{Date}

-- the Unix epoch, as an instant
abbrev pub unix_epoch : ℕ
unix_epoch = epoch / per_millisecond

-- a number's last digit
abbrev pub digit : ℕ → ℕ
digit n = 48 + n % 10

-- ISO 8601, to the millisecond, in UTC: `YYYY-MM-DDThh:mm:ss.sssZ`
unfoldable pub iso_text : Date → List ℕ
iso_text d =
    digit (d.year / 1000) ∷ digit (d.year / 100) ∷ digit (d.year / 10) ∷ digit d.year ∷ 0x2D
    ∷ digit (d.month / 10) ∷ digit d.month ∷ 0x2D ∷ digit (d.day / 10) ∷ digit d.day ∷ 0x54
    ∷ digit (d.hour / 10) ∷ digit d.hour ∷ 0x3A ∷ digit (d.minute / 10) ∷ digit d.minute ∷ 0x3A
    ∷ digit (d.second / 10) ∷ digit d.second ∷ 0x2E
    ∷ digit (d.milli / 100) ∷ digit (d.milli / 10) ∷ digit d.milli ∷ 0x5A ∷ []

abbrev pub is_digit : ℕ → Bool
is_digit c = leb 48 c && leb c 57

-- whether a byte fits a form's byte: `0` stands for any digit, and every other byte for itself
abbrev pub fits_byte : ℕ → ℕ → Bool
fits_byte f c = cond (eqb f 48) (is_digit c) (eqb c f)

-- whether a text has a form
unfoldable pub fits_form : List ℕ → List ℕ → Bool
fits_form [] [] = true
fits_form [] (c ∷ cs) = false
fits_form (f ∷ fs) [] = false
fits_form (f ∷ fs) (c ∷ cs) = fits_byte f c && fits_form fs cs

-- `0000-00-00`, `0000-00-00T00:00:00Z` and `0000-00-00T00:00:00.000Z`
unfoldable pub day_form : List ℕ
day_form = 48 ∷ 48 ∷ 48 ∷ 48 ∷ 0x2D ∷ 48 ∷ 48 ∷ 0x2D ∷ 48 ∷ 48 ∷ []

unfoldable pub second_form : List ℕ
second_form =
    48 ∷ 48 ∷ 48 ∷ 48 ∷ 0x2D ∷ 48 ∷ 48 ∷ 0x2D ∷ 48 ∷ 48 ∷ 0x54 ∷ 48 ∷ 48 ∷ 0x3A ∷ 48 ∷ 48 ∷ 0x3A ∷ 48 ∷ 48 ∷ 0x5A ∷ []

unfoldable pub milli_form : List ℕ
milli_form =
    48 ∷ 48 ∷ 48 ∷ 48 ∷ 0x2D ∷ 48 ∷ 48 ∷ 0x2D ∷ 48 ∷ 48 ∷ 0x54 ∷ 48 ∷ 48 ∷ 0x3A ∷ 48 ∷ 48 ∷ 0x3A ∷ 48 ∷ 48 ∷ 0x2E ∷ 48 ∷ 48 ∷ 48 ∷ 0x5A ∷ []

-- the number of the two digits at a place
abbrev pub pair_at : List ℕ → ℕ → ℕ
pair_at s at = 10 * (get_or s at 0 - 48) + (get_or s (at + 1) 0 - 48)

-- the date of a text of these forms, with its time of day
abbrev pub date_in : List ℕ → ℕ → ℕ → ℕ → ℕ → Date
date_in s hour minute second milli =
    record {
      year = 100 * pair_at s 0 + pair_at s 2;
      month = pair_at s 5;
      day = pair_at s 8;
      hour = hour;
      minute = minute;
      second = second;
      milli = milli;
    }

-- the number of a text of digits
unfoldable pub value_from : ℕ → List ℕ → ℕ
value_from n [] = n
value_from n (c ∷ cs) = value_from (10 * n + (c - 48)) cs

abbrev pub value_of : List ℕ → ℕ
value_of s = value_from 0 s

unfoldable pub all_digits : List ℕ → Bool
all_digits [] = true
all_digits (c ∷ cs) = is_digit c && all_digits cs

-- from 1 to 17 digits
abbrev pub is_number : List ℕ → Bool
is_number s = leb 1 (length s) && (leb (length s) 17 && all_digits s)

unfoldable pub number_in : List ℕ → Option ℕ
number_in s = cond (is_number s) (Some (value_of s)) None

-- the instant so many milliseconds before the Unix epoch, if there is one
unfoldable pub after_sign : List ℕ → Option ℕ
after_sign s = cond (is_number s && leb (value_of s) unix_epoch) (Some (unix_epoch - value_of s)) None

-- a number of milliseconds since the Unix epoch, with `-` before it if need be
unfoldable pub bare_in : List ℕ → Option ℕ
bare_in s =
    cond (is_number s) (Some (unix_epoch + value_of s)) (cond (leb 1 (length s) && eqb (get_or s 0 0) 0x2D) (after_sign (drop 1 s)) None)

-- the instant of a date and a time of day to the second, with milliseconds that are given apart
abbrev pub timed_in : List ℕ → ℕ → Option ℕ
timed_in s milli = instant_of (date_in s (pair_at s 11) (pair_at s 14) (pair_at s 17) milli)

-- the instant that a text says
unfoldable pub time_in : List ℕ → Option ℕ
time_in s =
    cond (fits_form day_form s) (instant_of (date_in s 0 0 0 0))
    (cond (fits_form second_form s) (timed_in s 0)
    (cond (fits_form milli_form s) (timed_in s (10 * pair_at s 20 + (get_or s 22 0 - 48)))
    (bare_in s)))
