-- The days of the first months of a year: those that the code's table has, for a leap year too. Assumes nothing.
use Prim.Native.Nat.{ℕ, ◌+◌, ◌-◌, ◌≤◌, ◌<◌}
use borrow.Author.Tests.{eqb-true, leb-true, le-ltb}
use lib.Dec.{eqb, leb}
use lib.ListN.{get_or}
use mathlib.Core.Bool.{Bool, true, false, ◌&&◌}
use mathlib.Core.List.{List, [], ◌∷◌}
use mir.Val.{bool_byte}
use mathlib.Core.Path.{◌≡◌, refl, ap, subst, ◌∙◌}
use native.Mathlib.Numerals.{add-one}
use native.Mathlib.Omega.{arith}
use Rattle.calendar.specs.Calendar.{sum, days_before, month_days, first_from, next_month_after}
use Rattle.calendar.proofs.Searching.{below, on}

unfoldable pub starts : List ℕ
starts = 0 ∷ 31 ∷ 59 ∷ 90 ∷ 120 ∷ 151 ∷ 181 ∷ 212 ∷ 243 ∷ 273 ∷ 304 ∷ 334 ∷ 365 ∷ []

-- the table's entry, with the leap day from March on
abbrev pub start : Bool → ℕ → ℕ
start leap m = get_or starts m 0 + bool_byte (leap && leb 2 m)

pub start_is : (leap : Bool) (m : ℕ) → m < 13 → start leap m ≡ days_before leap m
unfolding starts days_before sum
start_is true m h = eqb-true _ _ (below (λ (k : ℕ). eqb (start true k) (days_before true k)) 13 refl m h)
start_is false m h = eqb-true _ _ (below (λ (k : ℕ). eqb (start false k) (days_before false k)) 13 refl m h)

pub at_most : (leap : Bool) (m : ℕ) → m < 13 → days_before leap m ≤ 366
unfolding days_before sum
at_most true m h = leb-true _ _ (below (λ (k : ℕ). leb (days_before true k) 366) 13 refl m h)
at_most false m h = leb-true _ _ (below (λ (k : ℕ). leb (days_before false k) 366) 13 refl m h)

-- a month more is the month's days more
month_more : (leap : Bool) (m : ℕ) → m < 12 → days_before leap (m + 1) ≡ days_before leap m + get_or (month_days leap) m 0
unfolding days_before sum
month_more true m h = eqb-true _ _ (below (λ (k : ℕ). eqb (days_before true (k + 1)) (days_before true k + get_or (month_days true) k 0)) 12 refl m h)
month_more false m h = eqb-true _ _ (below (λ (k : ℕ). eqb (days_before false (k + 1)) (days_before false k + get_or (month_days false) k 0)) 12 refl m h)

pub month_length : (leap : Bool) (m : ℕ) → 1 ≤ m → m ≤ 12 → days_before leap m ≡ days_before leap (m - 1) + get_or (month_days leap) (m - 1) 0
month_length leap m l h =
    let q : m - 1 + 1 ≡ m = omega arith in
    subst (λ (x : ℕ). days_before leap x ≡ days_before leap (m - 1) + get_or (month_days leap) (m - 1) 0) q (month_more leap (m - 1) (omega arith))

pub none_before : (leap : Bool) → days_before leap 0 ≡ 0
unfolding days_before sum
none_before leap = refl

-- the search goes on by a month
pub month_on : (leap : Bool) (day m : ℕ) → m < 11 → days_before leap (m + 1) ≤ day → first_from (next_month_after leap day) (11 - m) m ≡ first_from (next_month_after leap day) (11 - (m + 1)) (m + 1)
month_on leap day m h low =
    let q : 11 - m ≡ (10 - m) + 1 = omega arith in
    let p : 10 - m ≡ 11 - (m + 1) = omega arith in
    rw q (rw (add-one (10 - m)) (on (next_month_after leap day) (10 - m) m (le-ltb day (days_before leap (m + 1)) low) ∙ rw p))

-- the code's sum
pub entry : (leap from : Bool) (m n : ℕ) → m ≤ 12 → from ≡ (leap && leb 2 m) → n ≡ bool_byte from
    → (get_or starts m 0 + n ≡ days_before leap m) × (get_or starts m 0 + n ≤ 366)
entry leap from m n h e q =
    let one : n ≡ bool_byte (leap && leb 2 m) = q ∙ ap bool_byte e in
    let sum = start_is leap m (omega arith) in
    let most = at_most leap m (omega arith) in
    (omega arith, omega arith)
