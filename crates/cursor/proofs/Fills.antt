-- What the loop of `fill` does to the table, and what the rows of a page's plan make of it: the page's answer. Assumes nothing.
use mathlib.Core.Path.{◌≡◌, refl, sym, ◌∙◌, ap, subst}
use Prim.Native.Nat.{ℕ, suc, ◌+◌, ◌-◌, ◌<◌, ◌≤◌}
use native.Mathlib.Omega.{arith}
use mathlib.Core.List.{List, [], ◌∷◌, ◌++◌, append_assoc, append-nil}
use lib.ListN.{length, set, take, drop, replicate, length-replicate}
use borrow.Author.Tests.{lt-ltb}
use mathlib.Core.Bool.{false≢true}
use Rattle.std.proofs.lemmas.List.{take_all, take_more_set}
use Rattle.record.specs.Record.{plausible}
use Rattle.rows.specs.declared.Row.{Row}
use Rattle.steps.specs.declared.Place.{Place}
use Rattle.steps.specs.declared.Step.{Step}
use Rattle.steps.specs.declared.StepError.{StepError}
use Rattle.layout.specs.Layout.{trace_limit}
use Rattle.resync.specs.Search.{searched}
use Rattle.paging.specs.Page.{PageGiven, page_from, page_at, page_refusal, page_refused}
use Rattle.steps.proofs.Stepping.{sound_next, is_step}
use Rattle.steps.specs.Step.{Sound, StepTold, blank_row, step_of, rows_of, told_step}
use Rattle.paging.specs.Plan.{Planned}
use Rattle.paging.specs.declared.Plan.{Plan}
use Rattle.paging.specs.declared.Page.{Page}
use Rattle.paging.specs.declared.PageError.{PageError}
use Rattle.std.specs.Prelude.{None, Result, Ok, Err, IsOk, IsErr, IsErrAnd}
use Rattle.cursor.specs.Table.{Answered, blanks}

-- one turn of the loop: a row is written, and those from the next place on are left
pub turned : (k s : List ℕ) (n i : ℕ) (at : Place) (rows : List Row) → i < n → i < length rows → (t : StepTold) → t ≡ step_of plausible k s at
    → take (i + 1) (set rows i t.row) ++ rows_of plausible k s t.next (n - (i + 1)) ≡ take i rows ++ rows_of plausible k s at (n - i)
unfolding rows_of
turned k s n i at rows h l t e =
    let left : n - i ≡ suc (n - (i + 1)) = omega arith in
    rw left
    (rw (take_more_set rows i t.row l)
    (append_assoc (take i rows) (t.row ∷ []) (rows_of plausible k s t.next (n - (i + 1)))
    ∙ ap (λ (x : StepTold). take i rows ++ (x.row ∷ rows_of plausible k s x.next (n - (i + 1)))) e))

-- from a place that a page comes to there is a step, and the place after it is another
module _ (k s : List ℕ) (at : Place) (sound : Sound at) where
  pub sound_after : (t : StepTold) → t ≡ step_of plausible k s at → Sound t.next
  sound_after t e = rw e (sound_next plausible (omega arith) (omega arith) k s at sound)

  pub there : length s ≤ trace_limit → (r : Result Step StepError) → told_step at r ≡ step_of plausible k s at → IsOk r
  there = is_step plausible (omega arith) (omega arith) k s at sound

-- all n rows are written
pub written : (k s : List ℕ) (at : Place) (n i : ℕ) (rows all rest : List Row) → n ≤ i → length rows ≤ i → take i rows ++ rows_of plausible k s at (n - i) ≡ all → rows ++ rest ≡ all ++ rest
unfolding rows_of
written k s at n i rows all rest done size e =
    let none_left : n - i ≡ 0 = omega arith in
    ap (λ (l : List Row). l ++ rest) (sym (take_all i rows size) ∙ sym (append-nil (take i rows)) ∙ rw none_left at e)

-- a trace over the limit is refused, and no row is written
pub refused : (kinds s : List ℕ) (offset count : ℕ) → trace_limit < length s → (r : Result Page PageError) → IsErr r × IsErrAnd r (λ e. e ≡ PageError.TraceTooLong) → (table : List Row)
    → Answered (page_at plausible kinds s None offset count (length table)) r table table
unfolding page_from searched
refused kinds s offset count over (Ok page) is table = absurd (false≢true is.0)
refused kinds s offset count over (Err e) is table =
    simp (lt-ltb trace_limit (length s) over) (record { told = ap (λ (x : PageError). page_refused (page_refusal x)) is.1; rows = refl })

-- what the plan's rows, written, make of the table
pub answered : (kinds s : List ℕ) (room : ℕ) (given : PageGiven) (p : Plan) (before after : List Row) → Planned plausible kinds s room given p
    → after ≡ rows_of plausible kinds s p.place p.rows ++ drop p.rows before → Answered given p.page before after
answered kinds s room given p before after plan e =
    record { told = plan.told; rows = e ∙ rw plan.rows (ap (λ (k : ℕ). given.rows ++ drop k before) plan.number) }

-- the same page in a table of n rows with nothing in them
into_blank : (n : ℕ) (given : ℕ → PageGiven) (page : Result Page PageError) (b : Row) (after : List Row) → b ≡ blank_row
    → Answered (given (length (replicate n b))) page (replicate n b) after → Answered (given n) page (replicate n blank_row) after
into_blank n given page b after e h =
    subst (λ (r : Row). Answered (given n) page (replicate n r) after) e
    (subst (λ (k : ℕ). Answered (given k) page (replicate n b) after) (length-replicate n b) h)

pub into_blanks : (given : ℕ → PageGiven) (page : Result Page PageError) (b : Row) (after : List Row) → b ≡ blank_row
    → Answered (given (length (replicate 600 b))) page (replicate 600 b) after → Answered (given 600) page blanks after
unfolding blanks
into_blanks given page b after e h = into_blank 600 given page b after e h
