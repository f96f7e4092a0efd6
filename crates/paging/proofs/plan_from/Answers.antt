-- `paging::plan_from` meets its contract. Assumes nothing.
use mathlib.Core.Path.{ap, ◌∙◌}
use Rattle.steps.specs.Step.{start_place}
use Rattle.paging.specs.Page.{PageTold, told_page}
use Rattle.paging.proofs.Planning.{planned}
use Rattle.paging.proofs.plan_from.Goals as goal

pub returns : goal.returns
returns c =
    let told = c.page_at.ensures in let plan = c.plan_of.ensures in
    planned _ _ _ _ _ _ (ap told_page plan.page ∙ told) (plan.place ∙ ap (λ (t : PageTold). start_place t.start) told) (plan.rows ∙ ap (λ (t : PageTold). t.size) told)
