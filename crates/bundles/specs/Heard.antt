-- What a frame says, wherever it stands: every field of it but the place of its MPDU, and the MPDU's bytes.
use Rattle.std.specs.Prelude.{ℕ, zero, suc, ◌+◌, eqb, ℤ, take, drop, Bool, ◌||◌, List, [], ◌∷◌, map, Option, None, Some}
use Rattle.pti.specs.Frame.{frame_of}
use Rattle.pti.specs.declared.PtiFrame.{PtiFrame}
use Rattle.rows.specs.Frames.{Placed, shifted, pti_from}
use Rattle.rows.specs.Rows.{rows_at}
use Rattle.rows.specs.declared.NextFrame.{NextFrame}
use Rattle.rows.specs.declared.Row.{Row}

pub record Heard : Type 0 where
  pub direction : ℕ
  pub region : ℕ
  pub channel : ℕ
  pub speed : ℕ
  pub rssi : ℤ
  pub beam_count : ℕ
  pub mpdu_len : ℕ
  pub mpdu : List ℕ

-- of a frame with this MPDU
abbrev pub heard_with : PtiFrame → List ℕ → Heard
heard_with f bytes =
    record {
      direction = f.direction;
      region = f.region;
      channel = f.channel;
      speed = f.speed;
      rssi = f.rssi;
      beam_count = f.beam_count;
      mpdu_len = f.mpdu_len;
      mpdu = bytes;
    }

-- of a frame whose MPDU's place is counted in these bytes
abbrev pub heard_in : List ℕ → PtiFrame → Heard
heard_in bytes f = heard_with f (take f.mpdu_len (drop f.mpdu bytes))

-- of the frame of a body, if it holds one
abbrev pub heard_by : List ℕ → Option PtiFrame → List Heard
heard_by body (Some f) = heard_in body f ∷ []
heard_by body None = []

abbrev pub heard_body : List ℕ → List Heard
heard_body body = heard_by body (frame_of body)

-- of a payload's PTI frames
unfoldable pub heard : List ℕ → List Heard
heard payload = map (λ (x : Placed). heard_in payload x.frame) (pti_from payload 0)

-- of a row of a trace: its record, position, milliseconds and gap are put aside, too
abbrev pub frame_in : Row → PtiFrame
frame_in r =
    record {
      direction = r.direction;
      region = r.region;
      channel = r.channel;
      speed = r.speed;
      rssi = r.rssi;
      beam_count = r.beam_count;
      mpdu = r.mpdu;
      mpdu_len = r.mpdu_len;
    }

abbrev pub heard_at : List ℕ → Row → Heard
heard_at s r = heard_in s (frame_in r)

-- of the rows of the record at a place
abbrev pub heard_rows : List ℕ → List ℕ → ℕ → List Heard
heard_rows kinds s at = map (heard_at s) (rows_at kinds s at)

-- a frame further on in a payload
abbrev pub placed_by : ℕ → Placed → Placed
placed_by far x = record { frame = shifted far x.frame; next = far + x.next }

-- what a caller of `next_frame` meets who asks n times at most, each time from the place that the last frame named
abbrev pub met_frame : Option NextFrame → (ℕ → List Placed) → List Placed
met_frame (Some x) rest = record { frame = x.frame; next = x.next } ∷ rest x.next
met_frame None rest = []

unfoldable pub asked : (ℕ → Option NextFrame) → ℕ → ℕ → List Placed
asked next zero at = []
asked next (suc n) at = met_frame (next at) (λ (k : ℕ). asked next n k)

-- 01: "Kinds 1 and 2 give PTI frames"
abbrev pub is_pti : ℕ → Bool
is_pti kind = eqb kind 1 || eqb kind 2
