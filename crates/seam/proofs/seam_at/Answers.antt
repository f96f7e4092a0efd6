-- `seam::seam_at` meets its contract. Assumes nothing.
use borrow.Author.Rules.{rules}
use native.Mathlib.Omega.{arith}
use mathlib.Core.Path.{refl}
use Rattle.record.proofs.Answers.{next_none, next_one}
use Rattle.record.proofs.Valid.{record_steps}
use Rattle.record.specs.Record.{plausible}
use Rattle.seam.proofs.Seams.{outside, broken, unbroken, one_more_lem}
use Rattle.seam.proofs.seam_at.Goals as goal

pub returns-then-not-contains : goal.returns-then-not-contains
returns-then-not-contains c = outside _ _ _ c.args.trace.fits (λ h. search rules)

pub returns-then-at-len : goal.returns-then-at-len
returns-then-at-len c =
    let kinds = c.args.trace.kinds.now in let s = c.args.trace.bytes.now in let l = c.loop-header in
    broken _ _ _ c.args.trace.fits (record_steps plausible kinds s) (search rules) (search rules) l.at l.records l.invariant.2
    (next_none plausible kinds s l.at _ c.in_default.ensures c.args.trace.fits refl) c.if-at-len.true

pub returns-in_default : goal.returns-in_default
returns-in_default c =
    let kinds = c.args.trace.kinds.now in let s = c.args.trace.bytes.now in let l = c.loop-header in
    unbroken _ _ _ c.args.trace.fits (record_steps plausible kinds s) (search rules) (search rules) l.at l.records l.invariant.2
    (omega arith)

pub loop-header-smaller : goal.loop-header-smaller
loop-header-smaller c =
    let kinds = c.args.trace.kinds.now in let s = c.args.trace.bytes.now in let l = c.loop-header in
    let steps = record_steps plausible kinds s in
    let e = next_one plausible kinds s l.at _ c.in-Some.ensures refl in
    let on = steps.grows l.at _ e in let in_trace = steps.inside l.at _ e in
    omega arith

pub loop-header-preserved : goal.loop-header-preserved
loop-header-preserved c =
    let kinds = c.args.trace.kinds.now in let s = c.args.trace.bytes.now in let l = c.loop-header in
    let steps = record_steps plausible kinds s in
    let e = next_one plausible kinds s l.at _ c.in-Some.ensures refl in
    let on = steps.grows l.at _ e in let in_trace = steps.inside l.at _ e in
    (in_trace, omega arith, one_more_lem _ _ _ c.args.trace.fits steps (search rules) (search rules) l.at l.records l.invariant.2 _ e)
