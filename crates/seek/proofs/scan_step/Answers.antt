-- `seek::scan_step` meets its contract, by what the search met. Assumes nothing.
use mir.Syntax.{w64}
use mir.ValLaws.{to_z-of_z}
use lib.ListN.{length}
use mathlib.Core.Bool.{true, false}
use Rattle.std.proofs.lemmas.Result.{err_from_is_err_and}
use Rattle.seek.proofs.Exits.{scan_past, scan_refused, scan_none, scan_met}
use Rattle.span.specs.Met.{meet_in}
use Rattle.seek.proofs.scan_step.Goals as goal

pub returns-then-trace-at : goal.returns-then-trace-at
returns-then-trace-at c = scan_past (meet_in c.args.trace.kinds.now c.args.trace.bytes.now) (length c.args.trace.bytes.now) c.args.target c.args.at c.if-trace-at.true

pub returns-in_err-met : goal.returns-in_err-met
returns-in_err-met c =
    let p = err_from_is_err_and c.from_residual.result c.from_residual.ensures.1 in
    rw (p.1, p.2) (scan_refused (meet_in c.args.trace.kinds.now c.args.trace.bytes.now) (length c.args.trace.bytes.now) c.args.target c.args.at c.if-trace-at.false _ c.in_err-met.ensures)

pub returns-in_default : goal.returns-in_default
returns-in_default c =
    scan_none (meet_in c.args.trace.kinds.now c.args.trace.bytes.now) (length c.args.trace.bytes.now) c.args.target c.args.at c.if-trace-at.false (rw c.in_default.is at c.in_ok-met.ensures)

pub returns-then-is_earlier : goal.returns-then-is_earlier
returns-then-is_earlier c =
    scan_met (meet_in c.args.trace.kinds.now c.args.trace.bytes.now) (length c.args.trace.bytes.now) c.args.target c.args.at c.if-trace-at.false
    c.in-Some.met (rw c.in-Some.is at c.in_ok-met.ensures) true (rw (to_z-of_z w64 c.args.target c.ranges.target) at c.if-is_earlier.ensures)

pub returns : goal.returns
returns c =
    scan_met (meet_in c.args.trace.kinds.now c.args.trace.bytes.now) (length c.args.trace.bytes.now) c.args.target c.args.at c.if-trace-at.false
    c.in-Some.met (rw c.in-Some.is at c.in_ok-met.ensures) false (rw (to_z-of_z w64 c.args.target c.ranges.target) at c.if-is_earlier.ensures)
