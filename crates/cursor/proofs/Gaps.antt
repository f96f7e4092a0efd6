-- The gaps of a page: the first row's counts from the time before, and is 0 with none given; every other's is the difference to the row before. Assumes nothing.
use Prim.Native.Nat.{ℕ, zero, suc, ◌<◌}
use lib.Dec.{ltb}
use lib.IntN.{ℤ, ◌-ℤ◌}
use lib.ListN.{length, get_or}
use mathlib.Core.List.{List, [], ◌∷◌}
use Rattle.std.specs.Prelude.{Option, Some}
use mathlib.Core.Path.{◌≡◌, refl}
use native.Mathlib.Numerals.{add-one}
use native.Mathlib.Omega.{arith}
use Rattle.choice.proofs.Choice.{by_choice}
use Rattle.resync.specs.Search.{searched, default_window}
use Rattle.rows.specs.declared.Row.{Row}
use Rattle.paging.proofs.Pages.{length_gapped}
use Rattle.paging.specs.Page.{gapped, taken, PageGiven, page_from}
use Rattle.steps.specs.Step.{gap_of, blank_row}
use Rattle.cursor.specs.Reading.{Gaps}

none_there : (before : Option ℤ) → Gaps before []
none_there before = record { first = λ h. absurd (omega arith); others = λ i h. absurd (omega arith) }

-- each row but the first, by its place
each : (before : Option ℤ) (rows : List Row) (i : ℕ) → suc i < length rows
    → (get_or (gapped before rows) (suc i) blank_row).gap ≡ (get_or (gapped before rows) (suc i) blank_row).millis -ℤ (get_or (gapped before rows) i blank_row).millis
unfolding gapped
each before [] i h = absurd (omega arith)
each before (r ∷ []) i h = absurd (omega arith)
each before (r ∷ (q ∷ rs)) zero h = refl
each before (r ∷ (q ∷ rs)) (suc i) h = each (Some r.millis) (q ∷ rs) i (omega arith)

first_of : (before : Option ℤ) (rows : List Row) → 0 < length (gapped before rows) → (get_or (gapped before rows) 0 blank_row).gap ≡ gap_of before (get_or (gapped before rows) 0 blank_row).millis
unfolding gapped
first_of before [] h = absurd (omega arith)
first_of before (r ∷ rs) h = refl

gaps : (before : Option ℤ) (rows : List Row) → Gaps before (gapped before rows)
gaps before rows =
    record {
      first = first_of before rows;
      others = λ i h. rw (add-one i) (each before rows i (omega (arith, length_gapped before rows)));
    }

-- the rows of a page, whatever its offset, count and room
pub page_gaps : (next : ℕ → Option ℕ) (rows : ℕ → List Row) (n : ℕ) (before : Option ℤ) (offset count room : ℕ) → Gaps before (page_from next rows n before offset count room).rows
unfolding page_from
page_gaps next rows n before offset count room =
    let t = searched next n offset default_window in
    let k = taken next rows n t.offset count in
    by_choice (λ (g : PageGiven). Gaps before g.rows) t.is_found
    (λ _. by_choice (λ (g : PageGiven). Gaps before g.rows) (ltb room (length k.rows)) (λ _. none_there before) (λ _. gaps before k.rows))
    (λ _. none_there before)
