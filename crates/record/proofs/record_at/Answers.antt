-- `record::record_at` meets its contract: each way out is a condition that does not hold, and the last one all six. Assumes nothing.
use borrow.Author.Rules.{rules}
use mathlib.Core.Path.{sym, ap, ◌∙◌}
use native.Mathlib.Omega.{arith}
use Rattle.ticks.specs.Ticks.{cleared}
use Rattle.record.proofs.Ways.{short, bad_ticks, bad_length, no_end, bad_opening, kind_is, low_end, six, answer, present}
use Rattle.record.proofs.record_at.Goals as goal

pub returns-then-len-lt-RECORD_HEADER : goal.returns-then-len-lt-RECORD_HEADER
returns-then-len-lt-RECORD_HEADER c = short _ _ _ _ c.args.trace.fits (omega arith)

pub returns-then-len-offset : goal.returns-then-len-offset
returns-then-len-offset c = short _ _ _ _ c.args.trace.fits (omega arith)

pub returns-then-not-ticks_plausible : goal.returns-then-not-ticks_plausible
returns-then-not-ticks_plausible c = bad_ticks _ _ _ _ c.args.trace.fits _ (c.ticks-ticks.ensures ∙ ap (λ x. cleared x) c.u64_at-raw_ticks.ensures) (sym c.ticks_plausible.ensures ∙ c.if-not-ticks_plausible.true)

pub returns-then-not-length_plausible : goal.returns-then-not-length_plausible
returns-then-not-length_plausible c = bad_length _ _ _ _ c.args.trace.fits _ c.u32_at-payload_len.ensures (sym c.length_plausible.ensures ∙ c.if-not-length_plausible.true)

pub returns-then-len-end_offset : goal.returns-then-len-end_offset
returns-then-len-end_offset c = no_end _ _ _ _ c.args.trace.fits c.u32_at-payload_len.result c.u32_at-payload_len.ensures (omega arith)

pub returns-then-not-opens_right : goal.returns-then-not-opens_right
returns-then-not-opens_right c = bad_opening _ _ _ _ c.args.trace.fits _ (kind_is c.args.trace.kinds.now c.args.trace.bytes.now c.args.offset _ _ c.u32_at-payload_len.ensures c.kind_of-kind.ensures) (sym c.opens_right.ensures ∙ c.if-not-opens_right.true)

pub overflow_sub-result : goal.overflow_sub-result
overflow_sub-result c = omega (arith, low_end c.ticks-ticks.result (sym c.ticks_plausible.ensures ∙ c.if-not-ticks_plausible.false))

pub returns : goal.returns
returns c =
    answer c.args.trace.kinds.now c.args.trace.bytes.now c.args.offset _ _ _ _
    c.u64_at-raw_ticks.ensures
    c.u32_at-payload_len.ensures
    (kind_is c.args.trace.kinds.now c.args.trace.bytes.now c.args.offset _ _ c.u32_at-payload_len.ensures c.kind_of-kind.ensures)
    c.ticks-ticks.ensures
    (sym c.ticks_plausible.ensures ∙ c.if-not-ticks_plausible.false)
    (omega (arith))
    ∙ present _ _ _ _ c.args.trace.fits
    (six _ _ _ _ (omega arith) _ (c.ticks-ticks.ensures ∙ ap (λ x. cleared x) c.u64_at-raw_ticks.ensures) (sym c.ticks_plausible.ensures ∙ c.if-not-ticks_plausible.false)
    _ c.u32_at-payload_len.ensures (sym c.length_plausible.ensures ∙ c.if-not-length_plausible.false) c.if-len-end_offset.false
    _ (kind_is c.args.trace.kinds.now c.args.trace.bytes.now c.args.offset _ _ c.u32_at-payload_len.ensures c.kind_of-kind.ensures) (search rules) (sym c.opens_right.ensures ∙ c.if-not-opens_right.false))
