-- `resync::near_candidate` meets its contract. The loop's invariant: none of the offsets passed begins a valid record. Assumes nothing.
use mathlib.Core.Path.{sym, ◌∙◌}
use native.Mathlib.Omega.{arith}
use Rattle.record.specs.Record.{plausible, valid}
use Rattle.resync.proofs.First.{one_more_lem}
use Rattle.resync.proofs.High.{turned_away}
use Rattle.resync.proofs.near_candidate.Goals as goal

pub loop-at-preserved : goal.loop-at-preserved
loop-at-preserved c =
    λ kinds.
    one_more_lem (valid plausible kinds _) _ _ (c.loop-at.invariant kinds)
    (turned_away _ _ (λ j. omega (arith, c.type_inv.s j)) kinds (sym c.may_begin.ensures ∙ c.if-may_begin.false))
