-- `cursor::fill` meets its contract. Assumes nothing.
use Rattle.std.proofs.Common.{◌∙◌, ◌≡◌, sym, ap, arith, rules}
use Rattle.std.proofs.lemmas.List.{length-take-le}
use Rattle.std.specs.Option.{unwrap_or}
use Rattle.steps.specs.Step.{blank_row, told_step}
use Rattle.cursor.proofs.Fills.{turned, there, sound_after, written}
use Rattle.cursor.proofs.fill.Goals as goal

pub unwrap-step-requires : goal.unwrap-step-requires
unwrap-step-requires c =
    let l = c.loop-row in
    there c.args.trace.kinds.now c.args.trace.bytes.now l.at l.invariant.0 c.args.trace.fits _ c.step_within.ensures

pub loop-row-preserved : goal.loop-row-preserved
loop-row-preserved c =
    let kinds = c.args.trace.kinds.now in let s = c.args.trace.bytes.now in let l = c.loop-row in
    let all = length-take-le c.args.n c.args.table.now c.requires.room in
    let row-is : c.unwrap_or_default.result ≡ unwrap_or c.unwrap-step.result.row blank_row = search rules in
    let told = ap (told_step l.at) (sym c.unwrap-step.ensures) ∙ c.step_within.ensures in (
      sound_after kinds s l.at l.invariant.0 _ told,
      rw row-is (turned kinds s c.args.n l.row-index l.at l.row-items (omega arith) (omega arith) _ told ∙ l.invariant.1),
    )

pub returns : goal.returns
returns c =
    let l = c.loop-row in let all = length-take-le c.args.n c.args.table.now c.requires.room in
    written c.args.trace.kinds.now c.args.trace.bytes.now l.at c.args.n l.row-index l.row-items _ _ (omega arith) (omega arith) l.invariant.1
