-- `paging::count_rows` meets its contract. Assumes nothing.
use native.Mathlib.Omega.{arith}
use lib.ListN.{length}
use mathlib.Core.Path.{◌≡◌, refl, sym, ap, ◌∙◌}
use Rattle.record.proofs.Answers.{next_none}
use Rattle.record.proofs.Valid.{record_steps}
use Rattle.record.specs.Record.{plausible, next_at}
use Rattle.rows.specs.Rows.{rows_at}
use Rattle.steps.proofs.Headers.{header, frames_of, payload_length}
use Rattle.paging.proofs.Counting.{stops, full, adds, rows_length, rows_most}
use Rattle.paging.proofs.count_rows.Goals as goal

pub overflow_add-total : goal.overflow_add-total
overflow_add-total c =
    let kinds = c.args.trace.kinds.now in let s = c.args.trace.bytes.now in let at = c.loop-total.at in
    let h = header kinds s at c.in-Some.field-0.header c.in-Some.ensures.header in
    let k-is : c.frame_count-total.result ≡ length (rows_at kinds s at) = c.frame_count-total.ensures ∙ ap length (frames_of kinds s at _ h _ c.in-Some.ensures.payload 0) ∙ sym (rows_length kinds s at) in
    omega (arith, h.inside, rows_most kinds s at, payload_length kinds s at _ h)

pub loop-total-smaller : goal.loop-total-smaller
loop-total-smaller c =
    let h = header c.args.trace.kinds.now c.args.trace.bytes.now c.loop-total.at c.in-Some.field-0.header c.in-Some.ensures.header in
    omega (arith, h.inside, h.next_is)

pub loop-total-preserved : goal.loop-total-preserved
loop-total-preserved c =
    let kinds = c.args.trace.kinds.now in let s = c.args.trace.bytes.now in let l = c.loop-total in
    let h = header kinds s l.at c.in-Some.field-0.header c.in-Some.ensures.header in
    let k-is : c.frame_count-total.result ≡ length (rows_at kinds s l.at) = c.frame_count-total.ensures ∙ ap length (frames_of kinds s l.at _ h _ c.in-Some.ensures.payload 0) ∙ sym (rows_length kinds s l.at) in
    let most = rows_most kinds s l.at in let size = payload_length kinds s l.at _ h in (
      omega (arith, h.inside, h.next_is),
      omega (arith, h.next_is),
      adds (next_at plausible kinds s) (rows_at kinds s) (length s) (record_steps plausible kinds s) c.args.start c.args.count l.at l.total l.invariant.2 c.loop-total-test.true _ _ h.next k-is,
    )

pub returns-in_default : goal.returns-in_default
returns-in_default c =
    let kinds = c.args.trace.kinds.now in let s = c.args.trace.bytes.now in let l = c.loop-total in
    stops (next_at plausible kinds s) (rows_at kinds s) (length s) (record_steps plausible kinds s) c.args.start c.args.count l.at l.total l.invariant.2
    (next_none plausible kinds s l.at _ c.in_default.ensures.header c.args.trace.fits refl)

pub returns-after-loop-total : goal.returns-after-loop-total
returns-after-loop-total c =
    let kinds = c.args.trace.kinds.now in let s = c.args.trace.bytes.now in let l = c.loop-total in
    full (next_at plausible kinds s) (rows_at kinds s) (length s) (record_steps plausible kinds s) c.args.start c.args.count l.at l.total l.invariant.2 (omega arith)
