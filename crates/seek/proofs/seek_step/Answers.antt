-- `seek::seek_step` meets its contract: a trace over the limit is refused first, and the state decides the rest. Assumes nothing.
use borrow.Author.Rules.{rules}
use mir.Syntax.{w64}
use mir.ValLaws.{to_z-of_z}
use Rattle.layout.proofs.Limit.{over}
use Rattle.std.proofs.lemmas.Result.{err_from_is_err_and}
use Rattle.record.specs.Record.{plausible}
use Rattle.seek.proofs.Exits.{step_long, step_told}
use Rattle.span.specs.Met.{trace_of}
use Rattle.seek.proofs.seek_step.Goals as goal

pub returns-in_err-trace : goal.returns-in_err-trace
returns-in_err-trace c =
    let p = err_from_is_err_and c.from_residual.result c.from_residual.ensures.1 in
    rw (p.1, p.2) (step_long (trace_of plausible c.args.trace.kinds.now c.args.trace.bytes.now) (over c.in_err-trace.ensures.fits.1) c.args.time_ms c.args.state)

pub returns-in-Searching : goal.returns-in-Searching
returns-in-Searching c =
    let step = rw (to_z-of_z w64 c.args.time_ms c.ranges.time_ms) at c.search_step.ensures in
    rw c.in-Searching.is
    (step_told (trace_of plausible c.args.trace.kinds.now c.args.trace.bytes.now) (search rules) c.args.time_ms _ _ (search rules))

pub returns-in-Scanning : goal.returns-in-Scanning
returns-in-Scanning c =
    let step = rw (to_z-of_z w64 c.args.time_ms c.ranges.time_ms) at c.scan_step.ensures in
    rw c.in-Scanning.is
    (step_told (trace_of plausible c.args.trace.kinds.now c.args.trace.bytes.now) (search rules) c.args.time_ms _ _ (search rules))
