-- `seek::search_step` meets its contract, by what the search from the middle met. Assumes nothing.
use mir.Syntax.{w64}
use mir.ValLaws.{to_z-of_z}
use lib.ListN.{length}
use native.Mathlib.Omega.{arith}
use Rattle.std.proofs.lemmas.Result.{err_from_is_err_and}
use Rattle.seek.proofs.Exits.{narrow_enough, halving_refused, halving_more}
use Rattle.span.specs.Met.{meet_in}
use Rattle.seek.proofs.search_step.Goals as goal

pub returns-then-span-le-SEEK_SPAN : goal.returns-then-span-le-SEEK_SPAN
returns-then-span-le-SEEK_SPAN c = narrow_enough (meet_in c.args.trace.kinds.now c.args.trace.bytes.now) (length c.args.trace.bytes.now) c.args.target c.args.bounds.lo c.args.bounds.hi (omega arith)

pub returns-in_err-met : goal.returns-in_err-met
returns-in_err-met c =
    let p = err_from_is_err_and c.from_residual.result c.from_residual.ensures.1 in
    rw (p.1, p.2)
    (halving_refused (meet_in c.args.trace.kinds.now c.args.trace.bytes.now) (length c.args.trace.bytes.now) c.args.target c.args.bounds.lo c.args.bounds.hi (omega arith) _ (rw c.middle.ensures at c.in_err-met.ensures))

pub returns : goal.returns
returns c =
    let z = to_z-of_z w64 c.args.target c.ranges.target in
    halving_more (meet_in c.args.trace.kinds.now c.args.trace.bytes.now) (length c.args.trace.bytes.now) c.args.target c.args.bounds.lo c.args.bounds.hi (omega arith)
    c.in_ok-met.met (rw c.middle.ensures at c.in_ok-met.ensures) _ _ (rw z at c.halved-lo.ensures.lo) (rw z at c.halved-lo.ensures.hi)
