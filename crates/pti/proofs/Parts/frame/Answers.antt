-- `pti::Parts::frame` meets its contract: each field is what its function ensures. Assumes nothing.
use borrow.Author.Rules.{sfits_of}
use mir.Syntax.{w8}
use mir.Val.{bool_byte}
use mir.ValLaws.{to_z-of_z}
use mathlib.Core.Bool.{Bool, true, false}
use mathlib.Core.Path.{◌≡◌, refl, ◌∙◌}
use Rattle.pti.specs.Frame.{direction_of}
use Rattle.pti.proofs.Framing.{succeeded, beamed, framed}
use Rattle.pti.proofs.Parts.frame.Goals as goal
use Rattle.pti.proofs.Parts.frame.Goals.{else-end-success-via-then-end-success+else-not-is_beam, else-end-success-via-else-end-success}

number : (sent : Bool) → bool_byte sent ≡ direction_of sent
number true = refl
number false = refl

pub returns : goal.returns
returns c =
    let s = c.args.self in
    rw (to_z-of_z w8 c.rssi.result (sfits_of c.rssi.type_inv))
    (framed s.before s.sent s.radio.now s.tail.now s.whole_tail _ c.low4.ensures _ _ _ _ _ _ _
    (elim c.else-end-success.branch [
      | else-end-success-via-then-end-success+else-not-is_beam w ↦ beamed s.before s.sent s.radio.now s.tail.now w.if-not-is_beam.ensures
      | else-end-success-via-else-end-success w ↦ succeeded s.before s.sent s.radio.now s.tail.now _ c.success.ensures w.if-end-success.false
    ])
    c.if-low4-ne-ZWAVE_PROTOCOL.false
    (c.from.ensures ∙ number s.sent)
    c.low4-region.ensures
    c.low4-channel.ensures
    c.speed_for-speed.ensures
    c.rssi.ensures
    c.beams.ensures
    c.mpdu_length.ensures)
