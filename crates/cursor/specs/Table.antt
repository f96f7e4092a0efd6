-- A table of rows before a page and after it.
use Rattle.std.specs.Prelude.{length, drop, replicate, List, ◌++◌, ◌≡◌, Result}
use Rattle.rows.specs.declared.Row.{Row}
use Rattle.paging.specs.Page.{PageGiven, told_page}
use Rattle.steps.specs.Step.{blank_row}
use Rattle.paging.specs.declared.Page.{Page}
use Rattle.paging.specs.declared.PageError.{PageError}

-- a page's answer and the rows lent, afterwards: "Rows past those written are untouched"
pub record Answered (given : PageGiven) (page : Result Page PageError) (before after : List Row) : Type 0 where
  pub told : told_page page ≡ given.told
  pub rows : after ≡ given.rows ++ drop (length given.rows) before

-- a table with nothing in it yet. It is `unfoldable`, so that antt does not write 600 rows out in each goal
unfoldable pub blanks : List Row
blanks = replicate 600 blank_row
