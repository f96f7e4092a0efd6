-- `plain::plain_from` meets its contract. The loop's invariant: the plain walk from here on answers what the one from the first record does. Assumes nothing.
use mir.Syntax.{w64}
use mir.ValLaws.{to_z-of_z}
use mathlib.Core.Path.{sym, ◌∙◌}
use native.Mathlib.Omega.{arith}
use Rattle.record.specs.Record.{plausible}
use Rattle.plain.proofs.Exits.{stops, goes_on_lem, passes, answers}
use Rattle.plain.proofs.plain_from.Goals as goal

pub returns-then-not-is_earlier : goal.returns-then-not-is_earlier
returns-then-not-is_earlier c =
    let z = to_z-of_z w64 c.args.time_ms c.ranges.time_ms in
    sym (rw z at c.loop-header.invariant ∙ answers plausible _ _ c.loop-header.at _ c.in-Some.ensures c.args.time_ms (rw z at c.if-not-is_earlier.ensures))

pub loop-header-smaller : goal.loop-header-smaller
loop-header-smaller c = omega (arith, goes_on_lem plausible _ _ c.loop-header.at _ c.in-Some.ensures)

pub loop-header-preserved : goal.loop-header-preserved
loop-header-preserved c = c.loop-header.invariant ∙ passes plausible _ _ c.loop-header.at _ c.in-Some.ensures _ c.if-not-is_earlier.ensures

pub returns-in_default : goal.returns-in_default
returns-in_default c =
    let z = to_z-of_z w64 c.args.time_ms c.ranges.time_ms in
    sym (rw z at c.loop-header.invariant ∙ stops plausible _ _ c.loop-header.at c.args.trace.fits c.in_default.ensures c.args.time_ms)
