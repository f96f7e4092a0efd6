-- The plan of a page.
use Rattle.std.specs.Prelude.{ℕ, ◌≤◌, length, List, ◌≡◌}
use Rattle.record.specs.Record.{Limits}
use Rattle.paging.specs.Page.{PageGiven, told_page}
use Rattle.steps.specs.Step.{rows_of, start_place}
use Rattle.paging.specs.declared.Plan.{Plan}

-- what a plan of a page says: the page's answer, that its rows are those from the page's start on, and how many, which the table has room for
pub record Planned (limits : Limits) (kinds s : List ℕ) (room : ℕ) (given : PageGiven) (p : Plan) : Type 0 where
  pub told : told_page p.page ≡ given.told
  pub place : p.place ≡ start_place given.told.start
  pub rows : rows_of limits kinds s p.place p.rows ≡ given.rows
  pub number : p.rows ≡ length given.rows
  pub enough : p.rows ≤ room
