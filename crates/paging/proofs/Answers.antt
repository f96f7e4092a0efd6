-- Whatever a page is, there is an answer that tells it. Assumes nothing.
use Prim.Native.Nat.{ℕ, ◌+◌, ◌-◌, ◌^◌}
use lib.Dec.{ltb, eqb}
use lib.IntN.{ℤ}
use lib.ListN.{length}
use mathlib.Core.List.{List}
use Rattle.std.specs.Prelude.{Option, None, Some, Result, Ok, Err}
use mathlib.Core.Path.{◌≡◌, refl}
use Rattle.choice.proofs.Choice.{by_choice}
use Rattle.layout.specs.Layout.{trace_limit}
use Rattle.resync.specs.Boundary.{boundary}
use Rattle.resync.specs.Search.{SearchTold, first_from, start_of, window_of, judged_of, searched, default_window}
use Rattle.rows.specs.declared.Row.{Row}
use Rattle.paging.specs.Page.{gapped, Taken, taken, PageTold, PageGiven, next_told, lent_to, with_none, page_refused, page_of, page_from, told_page}
use Rattle.paging.specs.declared.Page.{Page}
use Rattle.paging.specs.declared.PageError.{PageError}

abbrev the_last : ℕ → ℕ → Result Page PageError
the_last start size = Ok (record { start = start; size = size; next = None })

abbrev Answerable : PageTold → Type 0
Answerable t = (p : Result Page PageError) × (told_page p ≡ t)

module _ (next : ℕ → Option ℕ) (rows : ℕ → List Row) (n : ℕ) (before : Option ℤ) (offset count room : ℕ) where
  of_lent : (start : ℕ) (t : Taken) → Answerable (lent_to n before room count start t).told
  of_lent start t =
      by_choice (λ (g : PageGiven). Answerable g.told) (ltb room (length t.rows))
      {a = with_none (page_refused 7)}
      {b = record { told = next_told n count start t; rows = gapped before t.rows }}
      (λ _. (Err PageError.TableTooShort, refl))
      (λ _.
      by_choice Answerable (eqb count 0) (λ _. (the_last start 0, refl))
      (λ _. by_choice Answerable (ltb t.end n) (λ _. (Ok (record { start = start; size = length t.rows; next = Some t.end }), refl)) (λ _. (the_last start (length t.rows), refl))))

  of_search : (start all : ℕ) (o : Option ℕ) → Answerable (page_of next rows n before offset count room (judged_of start all o)).told
  of_search start all None = (the_last offset 0, refl)
  of_search start all (Some at) = of_lent at (taken next rows n at count)

  pub page_answer : Answerable (page_from next rows n before offset count room).told
  unfolding page_from searched
  page_answer =
      let start = start_of offset in
      let all = window_of n start default_window in
      by_choice (λ (t : SearchTold). Answerable (page_of next rows n before offset count room t).told) (ltb trace_limit n) (λ _. (Err PageError.TraceTooLong, refl))
      (λ _.
      by_choice (λ (t : SearchTold). Answerable (page_of next rows n before offset count room t).told) (ltb (2 ^ 64 - 1) (start + default_window)) (λ _. (Err PageError.WindowTooLong, refl))
      (λ _. of_search start all (first_from (boundary next n) start all)))
