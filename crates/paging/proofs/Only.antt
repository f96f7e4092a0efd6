-- Each answer of a page is told in numbers of its own: two answers that tell the same are the same, so a promise about what is told determines the
-- answer; and a plan's promise determines the plan. Assumes nothing.
use Prim.Native.Nat.{ℕ}
use lib.Dec.{eqb}
use mathlib.Core.Bool.{cond}
use mathlib.Core.List.{List}
use mathlib.Core.Path.{◌≡◌, refl, sym, ◌∙◌}
use Rattle.choice.proofs.Only.{only}
use Rattle.record.specs.Record.{Limits}
use Rattle.steps.specs.declared.Place.{Place}
use Rattle.paging.specs.Page.{PageTold, PageGiven, told_page}
use Rattle.paging.specs.Plan.{Planned}
use Rattle.paging.specs.declared.Page.{Page}
use Rattle.paging.specs.declared.PageError.{PageError}
use Rattle.paging.specs.declared.Plan.{Plan}
use Rattle.std.specs.Prelude.{Option, None, Some, Result, Ok, Err}

back_page : PageTold → Result Page PageError
back_page t =
    cond (eqb t.refusal 0) (Ok (record { start = t.start; size = t.size; next = cond t.is_more (Some t.next) None }))
    (cond (eqb t.refusal 1) (Err PageError.TraceTooLong)
    (cond (eqb t.refusal 5) (Err PageError.WindowTooLong) (Err PageError.TableTooShort)))

same_next : (start size : ℕ) (next : Option ℕ) → back_page (told_page (Ok (record { start = start; size = size; next = next }))) ≡ Ok (record { start = start; size = size; next = next })
unfolding back_page
same_next start size (Some next) = refl
same_next start size None = refl

same_page : (r : Result Page PageError) → back_page (told_page r) ≡ r
unfolding back_page
same_page (Ok p) = same_next p.start p.size p.next
same_page (Err PageError.TraceTooLong) = refl
same_page (Err PageError.WindowTooLong) = refl
same_page (Err PageError.TableTooShort) = refl

pub only_page : (a b : Result Page PageError) → told_page a ≡ told_page b → a ≡ b
only_page = only told_page back_page same_page

-- a plan's promise leaves one plan
plan_is : (p : Plan) (page : Result Page PageError) (place : Place) (rows : ℕ) → p.page ≡ page → p.place ≡ place → p.rows ≡ rows → p ≡ record { page = page; place = place; rows = rows }
plan_is p page place rows e f g = λ j. record { page = e j; place = f j; rows = g j }

pub only_plan : (limits : Limits) (kinds s : List ℕ) (room : ℕ) (given : PageGiven) (p q : Plan) → Planned limits kinds s room given p → Planned limits kinds s room given q → p ≡ q
only_plan limits kinds s room given p q a b =
    plan_is p q.page q.place q.rows (only_page p.page q.page (a.told ∙ sym b.told)) (a.place ∙ sym b.place) (a.number ∙ sym b.number)
