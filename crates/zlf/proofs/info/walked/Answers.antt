-- `zlf::info::walked` meets its contract. The invariant: the records passed lead from the header's end to the place reached, and each kind's sums
-- with those still to come are the whole. The measure is what is left of the trace. Assumes nothing.
use Prim.Native.Nat.{◌<◌}
use native.Mathlib.Omega.{arith}
use lib.ListN.{length, length-set}
use mathlib.Core.Path.{refl, sym}
use Rattle.record.proofs.Answers.{next_none}
use Rattle.record.proofs.Valid.{record_steps}
use Rattle.record.specs.Record.{plausible, next_at}
use Rattle.paging.proofs.Counting.{rows_most}
use Rattle.steps.proofs.Headers.{header, payload_length}
use Rattle.seam.proofs.Seams.{broken, unbroken}
use Rattle.zlf.proofs.Passing.{none_passed, one_more_lem}
use Rattle.zlf.proofs.Sums.{kind_below, rows_counted, zeros, read_back, added, none_counted, complete, counted}
use Rattle.zlf.proofs.info.walked.Goals as goal

pub loop-found-init : goal.loop-found-init
loop-found-init c = record { passed = none_passed _ _ _; sums = λ k. rw (zeros k) (none_counted _ _ k); kinds = refl }

pub returns-then-at-trace-clause-mark : goal.returns-then-at-trace-clause-mark
returns-then-at-trace-clause-mark c =
    let o = c.args.opened in let kinds = o.trace.kinds.now in let s = o.trace.bytes.now in let l = c.loop-found in
    let none = next_none plausible kinds s l.at _ c.in_default.ensures.header o.fits refl in
    broken _ _ _ o.fits (record_steps plausible kinds s) (omega arith) o.has_header l.at l.records l.invariant.passed.run none c.if-at-trace.true

pub returns-then-at-trace-clause-counts : goal.returns-then-at-trace-clause-counts
returns-then-at-trace-clause-counts c =
    let o = c.args.opened in let kinds = o.trace.kinds.now in let s = o.trace.bytes.now in let l = c.loop-found in
    let none = next_none plausible kinds s l.at _ c.in_default.ensures.header o.fits refl in
    λ k. complete kinds s k _ l.at (l.invariant.sums k) none

pub returns-in_default-clause-mark : goal.returns-in_default-clause-mark
returns-in_default-clause-mark c =
    let o = c.args.opened in let kinds = o.trace.kinds.now in let s = o.trace.bytes.now in let l = c.loop-found in
    unbroken _ _ _ o.fits (record_steps plausible kinds s) (omega arith) o.has_header l.at l.records l.invariant.passed.run
    (omega (arith, l.invariant.passed.within o.has_header))

pub returns-in_default-clause-counts : goal.returns-in_default-clause-counts
returns-in_default-clause-counts c =
    let o = c.args.opened in let kinds = o.trace.kinds.now in let s = o.trace.bytes.now in let l = c.loop-found in
    let none = next_none plausible kinds s l.at _ c.in_default.ensures.header o.fits refl in
    λ k. complete kinds s k _ l.at (l.invariant.sums k) none

pub bounds-counts-kind : goal.bounds-counts-kind
bounds-counts-kind c =
    let below = kind_below _ _ _ _ (header _ _ _ _ c.in-Some.ensures.header) in omega arith

pub bounds-counts-kind-in-loop-found : goal.bounds-counts-kind-in-loop-found
bounds-counts-kind-in-loop-found c =
    let below = kind_below _ _ _ _ (header _ _ _ _ c.in-Some.ensures.header) in omega arith

pub overflow_add-counts-in-loop-found : goal.overflow_add-counts-in-loop-found
overflow_add-counts-in-loop-found c =
    let kinds = c.args.opened.trace.kinds.now in let s = c.args.opened.trace.bytes.now in let l = c.loop-found in
    let h = header _ _ _ _ c.in-Some.ensures.header in
    let below = kind_below _ _ _ _ h in
    let inside : c.from-kind.result < length l.counts = omega arith in
    let frames = rows_counted kinds s l.at _ h _ c.in-Some.ensures.payload _ c.frame_count-frames.ensures in
    let sums = l.invariant.sums c.from-kind.result in let most = rows_most kinds s l.at in let size = payload_length kinds s l.at _ h in
    rw (read_back l.counts c.from-kind.result inside _) (omega (arith, sums.frames_few, h.inside))

pub loop-found-smaller : goal.loop-found-smaller
loop-found-smaller c =
    let h = header _ _ _ _ c.in-Some.ensures.header in omega (arith, h.inside, h.next_is)

pub loop-found-preserved : goal.loop-found-preserved
loop-found-preserved c =
    let kinds = c.args.opened.trace.kinds.now in let s = c.args.opened.trace.bytes.now in let l = c.loop-found in
    let h = header _ _ _ _ c.in-Some.ensures.header in
    let below = kind_below _ _ _ _ h in
    let inside : c.from-kind.result < length l.counts = omega arith in
    let frames = rows_counted kinds s l.at _ h _ c.in-Some.ensures.payload _ c.frame_count-frames.ensures in
    record {
      passed = one_more_lem (next_at plausible kinds s) (length s) (record_steps plausible kinds s) _ l.at l.records l.invariant.passed _ h.next;
      sums = λ k. counted kinds s k _ l.at (l.invariant.sums k) _ h _ frames _ (rw (sym c.from-kind.ensures) (added l.counts c.from-kind.result inside k c.frame_count-frames.result));
      kinds = rw length-set (rw length-set l.invariant.kinds);
    }
