-- `steps::step_from` meets its contract. Assumes nothing.
use native.Mathlib.Omega.{arith}
use mathlib.Core.Path.{refl, ap, ◌∙◌}
use Rattle.record.proofs.Answers.{next_none}
use Rattle.record.specs.Record.{plausible}
use Rattle.rows.specs.Frames.{first_of}
use Rattle.steps.specs.declared.Place.{Place}
use Rattle.steps.proofs.Headers.{header, frames_of, payload_length}
use Rattle.steps.proofs.Stepping.{no_row, a_row, onward, row_asked, sound_moved}
use Rattle.steps.proofs.step_from.Goals as goal

pub row_step-requires : goal.row_step-requires
row_step-requires c =
    let kinds = c.args.trace.kinds.now in let s = c.args.trace.bytes.now in let at = c.loop-header.at in
    let h = header kinds s at.offset c.in-Some.field-0.header c.in-Some.ensures.header in
    let first = c.in-Some-found.ensures ∙ ap first_of (frames_of kinds s at.offset _ h _ c.in-Some.ensures.payload at.index) in
    let asked = row_asked kinds s at c.loop-header.invariant.0 _ first (omega (arith, h.inside, payload_length kinds s at.offset _ h)) (omega arith) in
    record { sound = c.loop-header.invariant.0; timed = h.timed; inside = asked.0; further = asked.1 }

pub returns-in-Some-found : goal.returns-in-Some-found
returns-in-Some-found c =
    let kinds = c.args.trace.kinds.now in let s = c.args.trace.bytes.now in let at = c.loop-header.at in
    let h = header kinds s at.offset c.in-Some.field-0.header c.in-Some.ensures.header in
    let first = c.in-Some-found.ensures ∙ ap first_of (frames_of kinds s at.offset _ h _ c.in-Some.ensures.payload at.index) in
    c.row_step.ensures ∙ a_row plausible kinds s c.args.place at c.loop-header.invariant.1 c.args.trace.fits c.requires _ _ _ h.next h.millis first

pub loop-header-smaller : goal.loop-header-smaller
loop-header-smaller c =
    let kinds = c.args.trace.kinds.now in let s = c.args.trace.bytes.now in
    let h = header kinds s c.loop-header.at.offset c.in-Some.field-0.header c.in-Some.ensures.header in
    omega (arith, h.inside, h.next_is, ap (λ (p : Place). p.offset) c.moved_to-at.ensures)

pub loop-header-preserved : goal.loop-header-preserved
loop-header-preserved c =
    let kinds = c.args.trace.kinds.now in let s = c.args.trace.bytes.now in let at = c.loop-header.at in
    let h = header kinds s at.offset c.in-Some.field-0.header c.in-Some.ensures.header in
    let none_first = c.in_default-found.ensures ∙ ap first_of (frames_of kinds s at.offset _ h _ c.in-Some.ensures.payload at.index) in
    rw c.moved_to-at.ensures (sound_moved at c.loop-header.invariant.0 _, onward plausible kinds s c.args.place at c.loop-header.invariant.1 _ h.next none_first)

pub returns-in_default : goal.returns-in_default
returns-in_default c =
    let kinds = c.args.trace.kinds.now in let s = c.args.trace.bytes.now in let l = c.loop-header in
    no_row plausible kinds s _ l.at l.invariant.1 c.args.trace.fits c.requires (next_none plausible kinds s l.at.offset _ c.in_default.ensures.header c.args.trace.fits refl)
