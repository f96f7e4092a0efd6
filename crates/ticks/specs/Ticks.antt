-- Times as a ZLF record stores them: .NET's `DateTime.ToBinary`, and the milliseconds of the Unix epoch that they stand for.
use Rattle.std.specs.Prelude.{ℕ, ◌+◌, ◌-◌, ◌*◌, ◌/◌, ◌%◌, ◌^◌, leb, ℤ, pos, neg_ℤ, cond}

-- .NET: a tick is 100 nanoseconds, so there are 10,000 in a millisecond; they are counted from midnight on 1 January of the year 1
abbrev pub per_millisecond : ℕ
per_millisecond = 10000

abbrev pub per_day : ℕ
per_day = 24 * 60 * 60 * 1000 * per_millisecond

-- the Gregorian calendar: the days from 1 January of the year 1 to 1 January of a year, when n years have gone by
abbrev pub days_of : ℕ → ℕ
days_of n = 365 * n + n / 4 - n / 100 + n / 400

-- midnight on 1 January of a year
abbrev pub new_year : ℕ → ℕ
new_year year = days_of (year - 1) * per_day

-- the Unix epoch: midnight on 1 January 1970
abbrev pub epoch : ℕ
epoch = new_year 1970

-- .NET: the low 62 bits are the ticks, the top two bits the kind of time (local, UTC, or not said)
abbrev pub cleared : ℕ → ℕ
cleared raw = raw % 2 ^ 62

-- 01: "Milliseconds are (cleared ticks - 621,355,968,000,000,000) / 10,000, rounded toward zero"
abbrev pub millis_of : ℕ → ℤ
millis_of ticks =
    cond (leb epoch ticks) (pos ((ticks - epoch) / per_millisecond)) (neg_ℤ (pos ((epoch - ticks) / per_millisecond)))

abbrev pub unix_millis : ℕ → ℤ
unix_millis raw = millis_of (cleared raw)
