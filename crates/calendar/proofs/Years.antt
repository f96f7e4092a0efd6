-- The years that have gone by on a day are known by the new years before and after it. Assumes nothing.
use Prim.Native.Nat.{ℕ, zero, suc, ◌+◌, ◌-◌, ◌*◌, ◌/◌, ◌≤◌, ◌<◌}
use borrow.Author.Tests.{lt-ltb, le-ltb}
use mathlib.Core.Path.{◌≡◌}
use native.Mathlib.Nat.{add-zero, le_refl}
use native.Mathlib.Omega.{arith}
use Rattle.ticks.specs.Ticks.{days_of}
use Rattle.calendar.specs.Calendar.{next_year_after, years_gone}
use Rattle.calendar.proofs.Searching.{found}

year_more : (n : ℕ) → days_of n ≤ days_of (n + 1)
year_more n = omega arith

-- a new year is no earlier than one that is no later
grows_by : (d a : ℕ) → days_of a ≤ days_of (a + d)
grows_by zero a = rw (add-zero a) (le_refl _)
grows_by (suc d) a =
    let h = grows_by d a in
    let s = year_more (a + d) in
    let q : a + suc d ≡ a + d + 1 = omega arith in
    rw q (omega arith)

pub grows : (a b : ℕ) → a ≤ b → days_of a ≤ days_of b
grows a b h =
    let q : b ≡ a + (b - a) = omega arith in
    rw q (grows_by (b - a) a)

-- a year has a day at least
pub at_least : (n : ℕ) → n ≤ days_of n
at_least n = omega arith

pub years_are : (day n : ℕ) → days_of n ≤ day → day < days_of (n + 1) → years_gone day ≡ n
unfolding years_gone
years_are day n low high =
    let m = at_least n in
    found (next_year_after day) day 0 n (omega arith) (omega arith)
    (λ (j : ℕ) h. let g = grows (j + 1) n (omega arith) in le-ltb day (days_of (j + 1)) (omega arith)) (lt-ltb day (days_of (n + 1)) high)

-- a guess from the mean length of a year is at most the answer
pub guess : (day : ℕ) → days_of (day * 400 / 146097 - 1) ≤ day
guess day = omega arith

-- and a year has 365 days at least, so that a new year that is no later than a day is not far
pub near : (day n : ℕ) → days_of n ≤ day → 365 * n ≤ day
near day n h = omega arith
