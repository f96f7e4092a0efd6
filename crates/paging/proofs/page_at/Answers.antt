-- `paging::page_at` meets its contract. Assumes nothing.
use mathlib.Core.Path.{◌∙◌}
use Rattle.paging.proofs.Planning.{when_found, found_inside, when_nothing, when_refused}
use Rattle.paging.proofs.page_at.Goals as goal

pub returns-in_err-start : goal.returns-in_err-start
returns-in_err-start c = when_refused _ _ _ _ _ _ c.in_err-start.ensures _ c.from_residual.ensures

pub returns-in_default : goal.returns-in_default
returns-in_default c = when_nothing _ _ _ _ _ _ _ c.in_ok-start.ensures c.in_default.is

pub page_of-requires : goal.page_of-requires
page_of-requires c = found_inside _ _ _ c.args.count c.args.room _ _ c.in_ok-start.ensures _ c.in-Some.is

pub returns : goal.returns
returns c = c.page_of.ensures ∙ when_found _ _ _ _ _ _ _ c.in_ok-start.ensures _ c.in-Some.is
