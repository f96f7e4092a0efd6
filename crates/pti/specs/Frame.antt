-- The Z-Wave frame in the body of a bracket record: header part, radio part, tail.
use Rattle.std.specs.Prelude.{ℕ, ◌+◌, ◌-◌, ◌%◌, eqb, ltb, leb, ℤ, pos, length, get_or, take, drop, Bool, true, false, ◌&&◌, ◌||◌, cond, List, Option, None, Some}
use Rattle.std.specs.Int.{w8}
use Rattle.std.proofs.Common.{to_z}
use Rattle.speed.specs.Speed.{speed_for}
use Rattle.beam.specs.Beam.{beam_count}
use Rattle.pti.specs.declared.PtiFrame.{PtiFrame}

-- a frame's direction: 0 received, 1 sent
abbrev pub direction_of : Bool → ℕ
direction_of sent = cond sent 1 0

-- 01: "The tail is 6 bytes for receive (end tag, RSSI, region, channel, protocol, one more) and 5 for transmit (the same without RSSI;
-- RSSI is 0)"
abbrev pub tail_size : Bool → ℕ
tail_size sent = cond sent 5 6

abbrev pub rssi_size : Bool → ℕ
rssi_size sent = cond sent 0 1

abbrev pub rssi_of : Bool → List ℕ → ℤ
rssi_of sent tail = cond sent (pos 0) (to_z w8 (get_or tail 1 0))

-- 01: "region and channel are low four bits"
abbrev pub region_of : Bool → List ℕ → ℕ
region_of sent tail = get_or tail (rssi_size sent + 1) 0 % 16

abbrev pub channel_of : Bool → List ℕ → ℕ
channel_of sent tail = get_or tail (rssi_size sent + 2) 0 % 16

abbrev pub protocol_of : Bool → List ℕ → ℕ
protocol_of sent tail = get_or tail (rssi_size sent + 3) 0 % 16

abbrev pub speed_of : Bool → List ℕ → ℕ
speed_of sent tail = speed_for (channel_of sent tail) (region_of sent tail)

-- 01: "0xF9 (receive) or 0xFD (transmit)"; "the first radio byte is 0x55, which makes it a beam"
abbrev pub end_tag : Bool → ℕ
end_tag sent = cond sent 0xFD 0xF9

abbrev pub is_beam : List ℕ → Bool
is_beam part = eqb (get_or part 0 0) 0x55

-- 01: "A beam .. counts repeats ..: pattern length 4 for speed 3, else 3"; 0 where it is no beam
abbrev pub beams_of : ℕ → List ℕ → ℕ
beams_of speed part = cond (is_beam part) (beam_count (cond (eqb speed 3) 4 3) part) 0

-- 01: "The MPDU is the radio part; when that part is over 7 bytes and its byte 7 is at most its length, byte 7 gives the MPDU length, 0
-- allowed. A beam keeps the whole part"
abbrev pub mpdu_length : List ℕ → ℕ
mpdu_length part =
    cond (is_beam part) (length part)
    (cond (ltb 7 (length part) && leb (get_or part 7 0) (length part)) (get_or part 7 0) (length part))

-- what a radio part, which stands at a place in the body, and a tail say of a frame
abbrev pub fields_of : ℕ → Bool → List ℕ → List ℕ → PtiFrame
fields_of place sent part tail =
    record {
      direction = direction_of sent;
      region = region_of sent tail;
      channel = channel_of sent tail;
      speed = speed_of sent tail;
      rssi = rssi_of sent tail;
      beam_count = beams_of (speed_of sent tail) part;
      mpdu = place;
      mpdu_len = mpdu_length part;
    }

-- 01: "The end tag must be 0xF9 (receive) or 0xFD (transmit) unless the first radio byte is 0x55 .. Protocol, low four bits, must be 6"
abbrev pub accepted : Bool → List ℕ → List ℕ → Bool
accepted sent part tail = (eqb (get_or tail 0 0) (end_tag sent) || is_beam part) && eqb (protocol_of sent tail) 6

unfoldable pub parts_of : ℕ → Bool → List ℕ → List ℕ → Option PtiFrame
parts_of place sent part tail = cond (accepted sent part tail) (Some (fields_of place sent part tail)) None

-- 01: "The body must be longer than header part plus tail"
unfoldable pub sided_of : ℕ → Bool → List ℕ → Option PtiFrame
sided_of header sent body =
    cond (ltb (header + tail_size sent) (length body))
    (parts_of header sent (take (length body - tail_size sent - header) (drop header body)) (drop (length body - tail_size sent) body))
    None

-- 01: "The header part's last byte is the start tag: 0xF8 receive, 0xFC transmit"
unfoldable pub tagged_of : ℕ → List ℕ → Option PtiFrame
tagged_of header body =
    cond (eqb (get_or body (header - 1) 0) 0xF8) (sided_of header false body)
    (cond (eqb (get_or body (header - 1) 0) 0xFC) (sided_of header true body) None)

-- 01: "A body opens with version 2 (header part 12 bytes) or 3 (19 bytes)"
unfoldable pub frame_of : List ℕ → Option PtiFrame
frame_of body =
    cond (eqb (get_or body 0 0) 2) (tagged_of 12 body) (cond (eqb (get_or body 0 0) 3) (tagged_of 19 body) None)
