-- `plain::plain_seek` meets its contract, by what the search for the first record met. Assumes nothing.
use borrow.Author.Rules.{rules}
use mir.Syntax.{w64}
use mir.ValLaws.{to_z-of_z}
use Rattle.layout.proofs.Limit.{over}
use Rattle.std.proofs.lemmas.Result.{err_from_is_err_and}
use Rattle.record.specs.Record.{plausible}
use Rattle.span.specs.Met.{trace_of}
use Rattle.plain.proofs.Exits.{too_long, without_first, walked_from}
use Rattle.plain.proofs.plain_seek.Goals as goal

pub returns-in_err-trace : goal.returns-in_err-trace
returns-in_err-trace c =
    let p = err_from_is_err_and c.from_residual.result c.from_residual.ensures.1 in
    rw (p.1) (too_long (trace_of plausible c.args.trace.kinds.now c.args.trace.bytes.now) c.args.time_ms (over c.in_err-trace.ensures.fits.1))

pub returns-in_default : goal.returns-in_default
returns-in_default c = without_first (trace_of plausible c.args.trace.kinds.now c.args.trace.bytes.now) c.args.time_ms (search rules) (search rules)

pub returns : goal.returns
returns c =
    let walked = rw (to_z-of_z w64 c.args.time_ms c.ranges.time_ms) at c.plain_from.ensures in
    walked_from (trace_of plausible c.args.trace.kinds.now c.args.trace.bytes.now) c.args.time_ms (search rules) c.in-Some.first (search rules) c.plain_from.result (search rules)
