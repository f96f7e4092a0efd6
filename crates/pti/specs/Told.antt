-- What a body holds, told in numbers. That it determines the answer is `only_parsed` of proofs/Only.antt.
use Rattle.std.specs.Prelude.{ℕ, ℤ, pos, Bool, true, false, Option, None, Some}
use Rattle.pti.specs.declared.PtiFrame.{PtiFrame}

-- whether there is a frame, and its fields in their order; what is not said is 0
pub record ParsedTold : Type 0 where
  pub is_frame : Bool
  pub direction : ℕ
  pub region : ℕ
  pub channel : ℕ
  pub speed : ℕ
  pub rssi : ℤ
  pub beam_count : ℕ
  pub mpdu : ℕ
  pub mpdu_len : ℕ

abbrev pub told_frame : PtiFrame → ParsedTold
told_frame f =
    record {
      is_frame = true;
      direction = f.direction;
      region = f.region;
      channel = f.channel;
      speed = f.speed;
      rssi = f.rssi;
      beam_count = f.beam_count;
      mpdu = f.mpdu;
      mpdu_len = f.mpdu_len;
    }

abbrev pub no_frame : ParsedTold
no_frame = record { is_frame = false; direction = 0; region = 0; channel = 0; speed = 0; rssi = pos 0; beam_count = 0; mpdu = 0; mpdu_len = 0 }

abbrev pub told_parsed : Option PtiFrame → ParsedTold
told_parsed (Some f) = told_frame f
told_parsed None = no_frame
