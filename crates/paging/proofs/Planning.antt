-- The plan of a page: what the code has at each way out, and that a page's rows come from its start on and fit the table. Assumes nothing.
use Prim.Native.Nat.{ℕ, ◌≤◌, ◌<◌}
use borrow.Author.Tests.{ltb-true, ltb-false, lt-ltb, le-ltb, eq-eqb, ne_eqb}
use lib.Dec.{ltb, eqb}
use lib.ListN.{length}
use mathlib.Core.Bool.{Bool, true, false, cond, ◌&&◌, false≢true}
use mathlib.Core.List.{List}
use Rattle.std.specs.Prelude.{Option, None, Some, Result, Ok, Err, IsErr, IsErrAnd}
use mathlib.Core.Path.{◌≡◌, refl, ap, ◌∙◌}
use native.Mathlib.Omega.{arith}
use Rattle.std.specs.Bool.{then_some}
use Rattle.choice.proofs.Choice.{by_choice}
use Rattle.layout.specs.Layout.{trace_limit}
use Rattle.resync.proofs.Found.{FoundFirst, found_is}
use Rattle.record.proofs.Valid.{record_steps}
use Rattle.record.specs.Record.{plausible, next_at}
use Rattle.resync.specs.Search.{SearchTold, found, nothing, found_or, start_of, searched, default_window, search_refusal}
use Rattle.resync.specs.declared.SearchError.{SearchError}
use Rattle.rows.specs.Rows.{rows_at}
use Rattle.paging.specs.Page.{gapped, Taken, taken, PageTold, PageGiven, last_page, going_or_last, page_refused, with_none, next_told, lent_to, page_of, page_from, page_refusal, told_page}
use Rattle.steps.specs.Step.{rows_of, start_place}
use Rattle.paging.specs.Plan.{Planned}
use Rattle.paging.specs.declared.Page.{Page}
use Rattle.paging.specs.declared.PageError.{PageError}
use Rattle.paging.specs.declared.Plan.{Plan}
use Rattle.paging.proofs.Counting.{wanted_none}
use Rattle.paging.proofs.Filled.{filled}
use Rattle.paging.proofs.Pages.{length_gapped}
use Rattle.paging.proofs.Sizes.{page_sized}

next_start : (n count start : ℕ) (t : Taken) → (next_told n count start t).start ≡ start
next_start n count start t =
    by_choice (λ (x : PageTold). x.start ≡ start) (eqb count 0) (λ _. refl)
    (λ _. by_choice (λ (x : PageTold). x.start ≡ start) (ltb t.end n) (λ _. refl) (λ _. refl))

module _ (kinds s : List ℕ) where
  abbrev next : ℕ → Option ℕ
  next = next_at plausible kinds s

  abbrev n : ℕ
  n = length s

  abbrev taken_from : ℕ → ℕ → Taken
  taken_from start count = taken next (rows_at kinds s) n start count

  module _ (start count room : ℕ) where
    abbrev t : Taken
    t = taken_from start count

    abbrev given : PageGiven
    given = lent_to n None room count start t

    none_size : count ≡ 0 → length t.rows ≡ 0
    none_size e =
        let none_taken_is = wanted_none next (rows_at kinds s) n (record_steps plausible kinds s) start count start (next start) refl in
        ap (λ (k : ℕ). length (taken_from start k).rows) e ∙ ap (λ (x : Taken). length x.rows) none_taken_is

    goes_by : (b : Bool) → ltb 0 count ≡ b → (c : Bool) → ltb t.end n ≡ c → going_or_last start (length t.rows) (then_some (b && c) t.end) ≡ next_told n count start t
    goes_by false e c g = let z : count ≡ 0 = omega (arith, ltb-false 0 count e) in rw (none_size z) (simp (eq-eqb count 0 z))
    goes_by true e true g = simp (ne_eqb count 0 (λ z. omega (arith, ltb-true 0 count e)), g)
    goes_by true e false g = simp (ne_eqb count 0 (λ z. omega (arith, ltb-true 0 count e)), g)

    -- the answer, of the rows counted
    pub has_room : (size end : ℕ) → (size ≡ length t.rows) × (end ≡ t.end) → size ≤ room → (more : Option ℕ) → more ≡ then_some (ltb 0 count && ltb end n) end → going_or_last start size more ≡ given.told
    has_room size end is h more e =
        rw e (rw is.0 (rw is.1 (goes_by (ltb 0 count) refl (ltb t.end n) refl ∙ simp (le-ltb room (length t.rows) (rw is.0 at h)))))

  module _ (offset count room : ℕ) where
    abbrev page : PageGiven
    page = page_from next (rows_at kinds s) n None offset count room

    abbrev search : SearchTold
    search = searched next n offset default_window

    module _ (o : Option ℕ) (judged : ℕ) (told : found_or o judged ≡ search) where
      pub when_found : (start : ℕ) → o ≡ Some start → (lent_to n None room count start (taken_from start count)).told ≡ page.told
      unfolding page_from
      when_found start e = ap (λ (x : SearchTold). (page_of next (rows_at kinds s) n None offset count room x).told) (rw e at told)

      pub found_inside : (start : ℕ) → o ≡ Some start → start ≤ n
      found_inside start e =
          let f : FoundFirst next n (start_of offset) default_window (found start judged) = found_is next n offset default_window (found start judged) (rw e at told) refl in
          omega (arith, f.within)

      pub when_nothing : o ≡ None → last_page offset 0 ≡ page.told
      unfolding page_from
      when_nothing e = ap (λ (x : SearchTold). (page_of next (rows_at kinds s) n None offset count room x).told) (rw e at told)

    refused_by : (why : SearchError) → page_refused (search_refusal why) ≡ (page_of next (rows_at kinds s) n None offset count room (nothing (search_refusal why) 0)).told
    refused_by SearchError.TraceTooLong = refl
    refused_by SearchError.WindowTooLong = refl

    pub when_refused : (why : SearchError) → nothing (search_refusal why) 0 ≡ search → (r : Result Page PageError) → IsErr r × IsErrAnd r (λ e. page_refusal e ≡ search_refusal why) → told_page r ≡ page.told
    unfolding page_from
    when_refused why told (Ok p) is = absurd (false≢true is.0)
    when_refused why told (Err e) is =
        ap page_refused is.1 ∙ refused_by why ∙ ap (λ (x : SearchTold). (page_of next (rows_at kinds s) n None offset count room x).told) told

    pub too_long : trace_limit < n → page_refused 1 ≡ page.told
    unfolding page_from searched
    too_long h = simp (lt-ltb trace_limit n h)

    -- its rows come from its start on, and fit
    record Comes (g : PageGiven) : Type 0 where
      rows : rows_of plausible kinds s (start_place g.told.start) (length g.rows) ≡ g.rows
      enough : length g.rows ≤ room

    none_comes : (told : PageTold) → Comes (with_none told)
    unfolding rows_of
    none_comes told = record { rows = refl; enough = omega arith }

    lent_comes : n ≤ trace_limit → (start : ℕ) → Comes (lent_to n None room count start (taken_from start count))
    lent_comes fits start =
        let t = taken_from start count in let same = length_gapped None t.rows in
        by_choice Comes (ltb room (length t.rows))
        {a = with_none (page_refused 7)}
        {b = record { told = next_told n count start t; rows = gapped None t.rows }}
        (λ _. none_comes (page_refused 7))
        (λ e.
        record {
          rows = rw (next_start n count start t) (rw same (filled plausible kinds s (omega arith) (omega arith) fits start count));
          enough = omega (arith, same, ltb-false room (length t.rows) e);
        })

    page_comes : Comes page
    unfolding page_from
    page_comes =
        let t = searched next n offset default_window in
        by_choice Comes t.is_found
        (λ e. let f : FoundFirst next n (start_of offset) default_window t = found_is next n offset default_window t refl e in lent_comes f.fits t.offset)
        (λ e. none_comes (cond (eqb t.refusal 0) (last_page offset 0) (page_refused t.refusal)))

    pub planned : (p : Plan) → told_page p.page ≡ page.told → p.place ≡ start_place page.told.start → p.rows ≡ page.told.size → Planned plausible kinds s room page p
    planned p told place rows =
        let number : p.rows ≡ length page.rows = rows ∙ page_sized next (rows_at kinds s) n (record_steps plausible kinds s) None count room offset in
        record { told = told; place = place; rows = rw place (rw number page_comes.rows); number = number; enough = omega (arith, page_comes.enough) }
