-- Lines for a person: aligned, and by name.
use Rattle.std.specs.Prelude.{ℕ, ◌-◌, eqb, ℤ, pos, negsuc, length, replicate, Bool, cond, List, [], ◌∷◌, ◌++◌, Result, Ok, Err}
use Rattle.seam.specs.declared.Seam.{Seam}
use Rattle.seam.specs.declared.Seam.TheVariants.{Unbroken, Broken}
use Rattle.seam.specs.declared.SeamError.{SeamError}
use Rattle.reader.specs.declared.ZlfRecord.{ZlfRecord}
use Rattle.rows.specs.declared.Row.{Row}
use Rattle.speed.specs.Chart.{row_for}
use Rattle.text.specs.Texts.{space, decimal_text, signed_text, hex_text}
use Rattle.ticks.specs.Ticks.{unix_millis}
use Rattle.names.specs.Names.{time_text, region_text, speed_text, kind_text, mpdu_text}

-- a text with spaces before it up to a width
unfoldable pub at_right : ℕ → List ℕ → List ℕ
at_right width text = replicate (width - length text) space ++ text

-- the bytes of a number's sign
abbrev pub signs : ℤ → ℕ
signs (pos n) = 0
signs (negsuc n) = 1

-- ` rx  ` for received, 0, and ` tx  ` for every other number
unfoldable pub direction_text : ℕ → List ℕ
direction_text direction = cond (eqb direction 0) (0x20 ∷ 0x72 ∷ 0x78 ∷ 0x20 ∷ 0x20 ∷ []) (0x20 ∷ 0x74 ∷ 0x78 ∷ 0x20 ∷ 0x20 ∷ [])

-- when a frame came, milliseconds since the one before, which way, where and how fast
unfoldable pub heard_text : ℕ → Row → List ℕ
heard_text kind r =
    time_text r.millis ++ at_right 15 (signed_text r.gap) ++ direction_text r.direction ++ region_text kind r.region ++ speed_text r.speed

-- channel, RSSI, beam count, the record's place and the position in the record, and a space
unfoldable pub numbers_text : Row → List ℕ
numbers_text r =
    at_right 4 (decimal_text r.channel) ++ at_right 6 (signed_text r.rssi) ++ at_right 7 (decimal_text r.beam_count) ++ at_right 12 (decimal_text r.«record») ++ at_right 5 (decimal_text r.position) ++ (space ∷ [])

-- a frame's line, with its MPDU
abbrev pub frame_text : ℕ → Row → List ℕ → List ℕ
frame_text kind r mpdu = heard_text kind r ++ numbers_text r ++ mpdu_text mpdu

-- `unbroken from PLACE to the end at SIZE, records: N`
unfoldable pub unbroken_text : ℕ → ℕ → ℕ → List ℕ
unbroken_text place size records =
    ((0x75 ∷ 0x6E ∷ 0x62 ∷ 0x72 ∷ 0x6F ∷ 0x6B ∷ 0x65 ∷ 0x6E ∷ 0x20 ∷ 0x66 ∷ 0x72 ∷ 0x6F ∷ 0x6D ∷ 0x20 ∷ []) ++ decimal_text place) ++ ((0x20 ∷ 0x74 ∷ 0x6F ∷ 0x20 ∷ 0x74 ∷ 0x68 ∷ 0x65 ∷ 0x20 ∷ 0x65 ∷ 0x6E ∷ 0x64 ∷ 0x20 ∷ 0x61 ∷ 0x74 ∷ 0x20 ∷ []) ++ decimal_text size) ++ ((0x2C ∷ 0x20 ∷ 0x72 ∷ 0x65 ∷ 0x63 ∷ 0x6F ∷ 0x72 ∷ 0x64 ∷ 0x73 ∷ 0x3A ∷ 0x20 ∷ []) ++ decimal_text records) ++ (0x0A ∷ [])

-- `BROKEN at STOP: no valid record there; from PLACE up to it, records: N`
unfoldable pub broken_text : ℕ → ℕ → ℕ → List ℕ
broken_text place stop records =
    ((0x42 ∷ 0x52 ∷ 0x4F ∷ 0x4B ∷ 0x45 ∷ 0x4E ∷ 0x20 ∷ 0x61 ∷ 0x74 ∷ 0x20 ∷ []) ++ decimal_text stop) ++ ((0x3A ∷ 0x20 ∷ 0x6E ∷ 0x6F ∷ 0x20 ∷ 0x76 ∷ 0x61 ∷ 0x6C ∷ 0x69 ∷ 0x64 ∷ 0x20 ∷ 0x72 ∷ 0x65 ∷ 0x63 ∷ 0x6F ∷ 0x72 ∷ 0x64 ∷ 0x20 ∷ 0x74 ∷ 0x68 ∷ 0x65 ∷ 0x72 ∷ 0x65 ∷ 0x3B ∷ 0x20 ∷ 0x66 ∷ 0x72 ∷ 0x6F ∷ 0x6D ∷ 0x20 ∷ []) ++ decimal_text place) ++ ((0x20 ∷ 0x75 ∷ 0x70 ∷ 0x20 ∷ 0x74 ∷ 0x6F ∷ 0x20 ∷ 0x69 ∷ 0x74 ∷ 0x2C ∷ 0x20 ∷ 0x72 ∷ 0x65 ∷ 0x63 ∷ 0x6F ∷ 0x72 ∷ 0x64 ∷ 0x73 ∷ 0x3A ∷ 0x20 ∷ []) ++ decimal_text records) ++ (0x0A ∷ [])

-- what the seam check said from a place of a trace of so many bytes, and `not checked` where it was refused
unfoldable pub mark_text : Result Seam SeamError → ℕ → ℕ → List ℕ
mark_text (Ok (Unbroken records)) place size = unbroken_text place size records
mark_text (Ok (Broken stop records)) place size = broken_text place stop records
mark_text (Err e) place size = 0x6E ∷ 0x6F ∷ 0x74 ∷ 0x20 ∷ 0x63 ∷ 0x68 ∷ 0x65 ∷ 0x63 ∷ 0x6B ∷ 0x65 ∷ 0x64 ∷ 0x0A ∷ []

-- ` out` for an outgoing record, and ` in `
unfoldable pub way_text : Bool → List ℕ
way_text outgoing = cond outgoing (0x20 ∷ 0x6F ∷ 0x75 ∷ 0x74 ∷ []) (0x20 ∷ 0x69 ∷ 0x6E ∷ 0x20 ∷ [])

-- an end byte in hexadecimal, and the kind that it stands for
unfoldable pub stored_text : ℕ → ℕ → List ℕ
stored_text end kind = hex_text (end ∷ []) ++ (space ∷ []) ++ kind_text kind

-- a record's place and its time
unfoldable pub when_text : ℕ → ℕ → List ℕ
when_text place ticks = at_right 10 (decimal_text place) ++ (space ∷ []) ++ time_text (unix_millis ticks)

-- which way it went, and its session
unfoldable pub held_text : Bool → ℕ → List ℕ
held_text outgoing session = way_text outgoing ++ at_right 4 (decimal_text session) ++ (space ∷ [])

-- a record as the sequential reader gives it: those, its end byte and kind, and the payload's place and length
unfoldable pub record_text : ZlfRecord → List ℕ
record_text z =
    when_text z.offset z.raw_ticks ++ held_text z.is_outcome z.session_id ++ stored_text z.end z.kind ++ at_right 11 (decimal_text z.payload_offset) ++ at_right 11 (decimal_text z.payload_len) ++ (0x0A ∷ [])

-- the records of a kind, and their frames
unfoldable pub count_text : ℕ → ℕ → ℕ → List ℕ
count_text kind records frames =
    (space ∷ space ∷ []) ++ kind_text kind ++ at_right 12 (decimal_text records) ++ at_right 12 (decimal_text frames) ++ (0x0A ∷ [])

-- a space, and a speed's name
unfoldable pub rate_text : ℕ → List ℕ
rate_text speed = (space ∷ []) ++ speed_text speed

-- the same for each of some speeds
unfoldable pub rates_text : List ℕ → List ℕ
rates_text [] = []
rates_text (speed ∷ speeds) = rate_text speed ++ rates_text speeds

-- a region of the wall chart: its number, its name in PTI records, which are of kind 1, and its row of speeds
unfoldable pub chart_text : ℕ → List ℕ
chart_text region = at_right 6 (decimal_text region) ++ (space ∷ space ∷ []) ++ region_text 1 region ++ rates_text (row_for region) ++ (0x0A ∷ [])
