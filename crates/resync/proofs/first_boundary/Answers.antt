-- `resync::first_boundary` meets its contract. The loop's invariant: none of the offsets passed is a boundary. Assumes nothing.
use borrow.Author.Rules.{rules}
use mathlib.Core.Path.{sym, ◌∙◌}
use Rattle.resync.proofs.Chain.{no_record}
use Rattle.resync.proofs.First.{one_more_lem, both_ranges}
use Rattle.record.proofs.Valid.{invalid_none}
use Rattle.resync.proofs.first_boundary.Goals as goal

pub loop-offset-preserved : goal.loop-offset-preserved
loop-offset-preserved c = (
  search rules,
  (
    search rules,
    both_ranges _ _ _ _
        (one_more_lem _ _ _ c.loop-offset.invariant.1.1 (sym c.begins_run.ensures ∙ c.if-begins_run.false))
        (λ k h l. no_record _ _ _ (invalid_none _ _ _ _ (c.candidate-next.ensures.1.1 _ k h l))),
  ),
)
