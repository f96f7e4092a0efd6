-- What is told of a body's frame determines it. Assumes nothing.
use mathlib.Core.Bool.{cond}
use mathlib.Core.Path.{◌≡◌, refl}
use Rattle.std.specs.Prelude.{Option, None, Some}
use Rattle.choice.proofs.Only.{only}
use Rattle.pti.specs.Told.{ParsedTold, told_parsed}
use Rattle.pti.specs.declared.PtiFrame.{PtiFrame}

-- the frame of the fields that are told
unfoldable pub back_frame : ParsedTold → PtiFrame
back_frame t =
    record {
      direction = t.direction;
      region = t.region;
      channel = t.channel;
      speed = t.speed;
      rssi = t.rssi;
      beam_count = t.beam_count;
      mpdu = t.mpdu;
      mpdu_len = t.mpdu_len;
    }

back_parsed : ParsedTold → Option PtiFrame
back_parsed t = cond t.is_frame (Some (back_frame t)) None

same_parsed : (r : Option PtiFrame) → back_parsed (told_parsed r) ≡ r
unfolding back_parsed back_frame
same_parsed (Some f) = refl
same_parsed None = refl

pub only_parsed : (a b : Option PtiFrame) → told_parsed a ≡ told_parsed b → a ≡ b
only_parsed = only told_parsed back_parsed same_parsed
