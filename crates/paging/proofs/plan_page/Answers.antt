-- `paging::plan_page` meets its contract: nothing is written of a trace over the limit. Assumes nothing.
use mathlib.Core.Path.{ap, ◌∙◌}
use Rattle.layout.proofs.Limit.{over}
use Rattle.steps.specs.Step.{start_place}
use Rattle.paging.specs.Page.{PageTold, told_page, page_refusal, page_refused}
use Rattle.paging.proofs.Planning.{planned, too_long}
use Rattle.paging.proofs.plan_page.Goals as goal

pub returns-in-Err : goal.returns-in-Err
returns-in-Err c =
    let plan = c.plan_of.ensures in
    let told = ap (λ e. page_refused (page_refusal e)) c.into.ensures ∙ too_long _ _ c.args.offset c.args.count c.args.room (over c.in-Err.ensures.fits.1) in
    planned _ _ _ _ _ _ (ap told_page plan.page ∙ told) (plan.place ∙ ap (λ (t : PageTold). start_place t.start) told) (plan.rows ∙ ap (λ (t : PageTold). t.size) told)
