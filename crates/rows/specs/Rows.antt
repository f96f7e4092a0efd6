-- The rows of a record: one to a frame, as numbers.
use Rattle.std.specs.Prelude.{ℕ, ◌+◌, ℤ, pos, take, drop, List, [], ◌∷◌}
use Rattle.ticks.specs.Ticks.{unix_millis}
use Rattle.layout.specs.Layout.{payload_part}
use Rattle.layout.specs.Fields.{ticks_at, outgoing_at, length_at, kind_at}
use Rattle.pti.specs.declared.PtiFrame.{PtiFrame}
use Rattle.rows.specs.Frames.{Placed, frames_from}
use Rattle.rows.specs.declared.Row.{Row}

-- 01: "record offset, position in the record, milliseconds, gap to the previous row's time .., direction, region, channel, speed, RSSI
-- signed, beam count (0 for no beam), MPDU offset in the trace, MPDU length"
abbrev pub row_of : ℕ → ℕ → ℤ → ℤ → PtiFrame → Row
row_of at position millis gap f =
    record {
      «record» = at;
      position = position;
      millis = millis;
      gap = gap;
      direction = f.direction;
      region = f.region;
      channel = f.channel;
      speed = f.speed;
      rssi = f.rssi;
      beam_count = f.beam_count;
      mpdu = at + payload_part + f.mpdu;
      mpdu_len = f.mpdu_len;
    }

-- a record's payload
abbrev pub payload_at : List ℕ → ℕ → List ℕ
payload_at s at = take (length_at s at) (drop (at + payload_part) s)

-- the frames of the record at a place, from a place in its payload on
abbrev pub frames_at : List ℕ → List ℕ → ℕ → ℕ → List Placed
frames_at kinds s at from = frames_from (kind_at kinds s at) (outgoing_at s at) (payload_at s at) from

-- the rows of some frames of a record, from a position on; the gap is the page's to set
unfoldable pub numbered : List ℕ → ℕ → ℕ → List Placed → List Row
numbered s at position [] = []
numbered s at position (f ∷ fs) = row_of at position (unix_millis (ticks_at s at)) (pos 0) f.frame ∷ numbered s at (position + 1) fs

-- the rows of the record at a place, its frames counted from 0
unfoldable pub rows_at : List ℕ → List ℕ → ℕ → List Row
rows_at kinds s at = numbered s at 0 (frames_at kinds s at 0)
