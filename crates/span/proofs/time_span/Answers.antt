-- `span::time_span` meets its contract: the first record's time, and what walking back from the end answers. Assumes nothing.
use borrow.Author.Rules.{rules}
use lib.IntN.{pos}
use mathlib.Core.Path.{◌∙◌, ap}
use Rattle.std.specs.Prelude.{None, Some, Ok}
use Rattle.layout.proofs.Limit.{over}
use Rattle.std.proofs.lemmas.Result.{err_from_is_err_and}
use Rattle.record.specs.Record.{plausible}
use Rattle.span.proofs.Mapped.{mapped}
use Rattle.span.proofs.Exits.{span_long, span_is, span_told}
use Rattle.span.specs.Met.{trace_of, told_met}
use Rattle.span.specs.Span.{span_to}
use Rattle.span.proofs.time_span.Goals as goal

pub returns-in_err-trace : goal.returns-in_err-trace
returns-in_err-trace c =
    let p = err_from_is_err_and c.from_residual.result c.from_residual.ensures.1 in
    rw (p.1) (span_long (trace_of plausible c.args.trace.kinds.now c.args.trace.bytes.now) (over c.in_err-trace.ensures.fits.1))

pub returns-in_default : goal.returns-in_default
returns-in_default c = span_is (trace_of plausible c.args.trace.kinds.now c.args.trace.bytes.now) (search rules) (told_met (Ok None)) (search rules)

pub returns : goal.returns
returns c =
    span_told c.in-Some.first.unix_millis c.last_back.result _ (mapped _ _ _ (search rules))
    ∙ ap (span_to (pos c.in-Some.first.unix_millis)) (search rules)
    ∙ span_is (trace_of plausible c.args.trace.kinds.now c.args.trace.bytes.now) (search rules) (told_met (Ok (Some c.in-Some.first))) (search rules)
