-- `seek::seek_time` meets its contract: the halvings from the first record, and the walk from where they leave lo. Assumes nothing.
use borrow.Author.Rules.{rules}
use mir.Syntax.{w64}
use mir.ValLaws.{to_z-of_z}
use Rattle.layout.proofs.Limit.{over}
use Rattle.std.proofs.lemmas.Result.{err_from_is_err_and}
use Rattle.record.specs.Record.{plausible}
use Rattle.seek.proofs.Exits.{seek_long, seek_none, seek_done}
use Rattle.span.specs.Met.{trace_of}
use Rattle.seek.proofs.seek_time.Goals as goal

pub returns-in_err-trace : goal.returns-in_err-trace
returns-in_err-trace c =
    let p = err_from_is_err_and c.from_residual.result c.from_residual.ensures.1 in
    rw (p.1) (seek_long (trace_of plausible c.args.trace.kinds.now c.args.trace.bytes.now) c.args.time_ms (over c.in_err-trace.ensures.fits.1))

pub returns-in_default : goal.returns-in_default
returns-in_default c = seek_none (trace_of plausible c.args.trace.kinds.now c.args.trace.bytes.now) c.args.time_ms (search rules) (search rules)

pub returns : goal.returns
returns c =
    let z = to_z-of_z w64 c.args.time_ms c.ranges.time_ms in
    let kept = rw z at c.narrow-lo.ensures.keeps in
    let walked = rw z at c.walk.ensures in
    seek_done (trace_of plausible c.args.trace.kinds.now c.args.trace.bytes.now) c.args.time_ms (search rules) c.in-Some.first (search rules) c.narrow-lo.result.lo c.narrow-lo.result.halvings (search rules) (search rules) c.walk.result (search rules)
