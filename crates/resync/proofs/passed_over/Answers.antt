-- `resync::passed_over` meets its contract. The loop's invariant: of the places passed, none before `first` begins a valid record. Assumes nothing.
use Prim.Native.Nat.{min}
use borrow.Author.Rules.{rules}
use mathlib.Core.Path.{◌≡◌, ap, ◌∙◌}
use native.Mathlib.Omega.{arith}
use Rattle.resync.proofs.Block.{earlier_of, one_place, whole_block}
use Rattle.resync.proofs.passed_over.Goals as goal

pub loop-i-preserved : goal.loop-i-preserved
loop-i-preserved c =
    let now_first : c.min-first.result ≡ earlier_of c.args.s.now c.args.at c.loop-i.first c.loop-i.i = c.min-first.ensures ∙ ap (min c.loop-i.first) c.place_or_end.ensures in (
      search rules,
      (
        omega (arith, c.min-first.ensures),
        rw now_first (one_place _ _ (λ k. omega (arith, c.type_inv.s k)) _ _ c.loop-i.invariant.1.1),
      ),
    )

pub returns : goal.returns
returns c = (search rules, whole_block _ _ _ (search rules) (λ kinds k h. c.loop-i.invariant.1.1 kinds k (omega arith)))
