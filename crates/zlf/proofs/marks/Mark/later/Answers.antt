-- `zlf::marks::Mark::later` meets its contract. The invariant: as many valid records as are passed lead from the earlier place to the one reached. The
-- measure is what is left to the later place. Assumes nothing.
use native.Mathlib.Omega.{arith}
use lib.ListN.{length}
use mathlib.Core.Path.{refl, sym, ap, ◌∙◌}
use Rattle.record.proofs.Answers.{next_one}
use Rattle.record.proofs.Valid.{record_steps}
use Rattle.record.specs.Record.{plausible, next_at}
use Rattle.seam.specs.Seam.{told_seam, seam_from}
use Rattle.zlf.proofs.Passing.{one_more_lem, unbroken_later, broken_later}
use Rattle.zlf.proofs.marks.Mark.later.Goals as goal
use Rattle.zlf.proofs.marks.Mark.later.Goals.{in-Unbroken, in-Broken}

pub loop-at-smaller : goal.loop-at-smaller
loop-at-smaller c =
    let t = c.args.self.trace in let kinds = t.kinds.now in let s = t.bytes.now in let at = c.loop-at.at in
    let steps = record_steps plausible kinds s in
    let e = next_one plausible kinds s at _ (rw c.in-Ok-Some.field-0-is at c.in-Ok-Some.ensures) refl in
    let on = steps.grows at _ e in omega arith

pub loop-at-preserved : goal.loop-at-preserved
loop-at-preserved c =
    let t = c.args.self.trace in let kinds = t.kinds.now in let s = t.bytes.now in let l = c.loop-at in
    let steps = record_steps plausible kinds s in
    let e = next_one plausible kinds s l.at _ (rw c.in-Ok-Some.field-0-is at c.in-Ok-Some.ensures) refl in
    one_more_lem (next_at plausible kinds s) (length s) steps c.args.self.place l.at l.passed l.invariant _ e

pub overflow_sub-seam : goal.overflow_sub-seam
overflow_sub-seam c =
    let t = c.args.self.trace in let kinds = t.kinds.now in let s = t.bytes.now in let l = c.loop-at in
    let told = rw c.in-Unbroken.is at (sym (ap told_seam c.in-Ok.is) ∙ c.args.self.right) in
    (unbroken_later (next_at plausible kinds s) (length s) (record_steps plausible kinds s) c.args.self.place l.at l.passed l.invariant _ told).0

pub overflow_sub-seam-in-Broken : goal.overflow_sub-seam-in-Broken
overflow_sub-seam-in-Broken c =
    let t = c.args.self.trace in let kinds = t.kinds.now in let s = t.bytes.now in let l = c.loop-at in
    let told = rw c.in-Broken.is at (sym (ap told_seam c.in-Ok.is) ∙ c.args.self.right) in
    (broken_later (next_at plausible kinds s) (length s) (record_steps plausible kinds s) c.args.self.place l.at l.passed l.invariant _ _ told).0

pub invariant_of-result : goal.invariant_of-result
invariant_of-result c =
    let t = c.args.self.trace in let kinds = t.kinds.now in let s = t.bytes.now in let l = c.loop-at in
    let next = next_at plausible kinds s in let steps = record_steps plausible kinds s in
    let here = ap (seam_from next (length s)) c.if-at-place.true in
    elim c.match-seam.branch [
      | in-Unbroken w ↦
          let told = rw w.in-Unbroken.is at (sym (ap told_seam c.in-Ok.is) ∙ c.args.self.right) in
          record { right = rw w.seam-is ((unbroken_later next (length s) steps c.args.self.place l.at l.passed l.invariant _ told).1 ∙ here) }
      | in-Broken w ↦
          let told = rw w.in-Broken.is at (sym (ap told_seam c.in-Ok.is) ∙ c.args.self.right) in
          record { right = rw w.seam-is ((broken_later next (length s) steps c.args.self.place l.at l.passed l.invariant _ _ told).1 ∙ here) }
    ]
