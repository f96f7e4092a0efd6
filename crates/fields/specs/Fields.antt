-- Lines for a script: a letter and bare fields, a space before each.
use Rattle.std.specs.Prelude.{ℕ, eqb, ℤ, Bool, cond, List, [], ◌∷◌, ◌++◌, Result, Ok, Err}
use Rattle.seam.specs.declared.Seam.{Seam}
use Rattle.seam.specs.declared.Seam.TheVariants.{Unbroken, Broken}
use Rattle.seam.specs.declared.SeamError.{SeamError}
use Rattle.reader.specs.declared.ZlfRecord.{ZlfRecord}
use Rattle.rows.specs.declared.Row.{Row}
use Rattle.speed.specs.Chart.{row_for}
use Rattle.text.specs.Texts.{space, decimal_text, signed_text}
use Rattle.ticks.specs.Ticks.{unix_millis}
use Rattle.names.specs.Names.{mpdu_text}

-- a space and a number
unfoldable pub field : ℕ → List ℕ
field n = (space ∷ []) ++ decimal_text n

-- a space and a number with its sign
unfoldable pub signed_field : ℤ → List ℕ
signed_field z = (space ∷ []) ++ signed_text z

-- numbers, a space before each
unfoldable pub fields_of : List ℕ → List ℕ
fields_of [] = []
fields_of (n ∷ ns) = field n ++ fields_of ns

-- a letter, and numbers after it
unfoldable pub lettered : ℕ → List ℕ → List ℕ
lettered letter numbers = (letter ∷ []) ++ fields_of numbers

-- a line of a letter and numbers
unfoldable pub line_of : ℕ → List ℕ → List ℕ
line_of letter numbers = lettered letter numbers ++ (0x0A ∷ [])

-- `R` for received, 0, and `T` for every other number
abbrev pub side_letter : ℕ → ℕ
side_letter direction = cond (eqb direction 0) 0x52 0x54

-- `F`, the record's place, the position in it, milliseconds and gap, and a space
unfoldable pub origin_fields : ℕ → ℕ → ℤ → ℤ → List ℕ
origin_fields place position millis gap = lettered 0x46 (place ∷ position ∷ []) ++ signed_field millis ++ signed_field gap ++ (space ∷ [])

-- direction, region, channel, speed, RSSI, beam count, the MPDU's place and length, and the record's kind
unfoldable pub radio_fields : ℕ → Row → List ℕ
radio_fields kind r =
    lettered (side_letter r.direction) (r.region ∷ r.channel ∷ r.speed ∷ []) ++ signed_field r.rssi ++ fields_of (r.beam_count ∷ r.mpdu ∷ r.mpdu_len ∷ kind ∷ [])

-- a row's fields in its order, the record's kind, and the MPDU
abbrev pub frame_fields : ℕ → Row → List ℕ → List ℕ
frame_fields kind r mpdu =
    origin_fields r.«record» r.position r.millis r.gap ++ radio_fields kind r ++ mpdu_text mpdu

-- `U place records`, or `B place break records`, and `N` where the check was refused
unfoldable pub mark_fields : Result Seam SeamError → ℕ → List ℕ
mark_fields (Ok (Unbroken records)) place = line_of 0x55 (place ∷ records ∷ [])
mark_fields (Ok (Broken stop records)) place = line_of 0x42 (place ∷ stop ∷ records ∷ [])
mark_fields (Err e) place = 0x4E ∷ 0x0A ∷ []

abbrev pub bit_of : Bool → ℕ
bit_of b = cond b 1 0

-- bit 7, session, end byte, kind, and the payload's place and length
abbrev pub marks_fields : ZlfRecord → List ℕ
marks_fields z =
    bit_of z.is_outcome ∷ z.session_id ∷ z.end ∷ z.kind ∷ z.payload_offset ∷ z.payload_len ∷ []

-- `D`, a record's place, its stored ticks, their milliseconds, and all of those
unfoldable pub record_fields : ZlfRecord → List ℕ
record_fields z =
    lettered 0x44 (z.offset ∷ z.raw_ticks ∷ []) ++ signed_field (unix_millis z.raw_ticks) ++ fields_of (marks_fields z) ++ (0x0A ∷ [])

-- `C`, a region, and its row of the wall chart
unfoldable pub chart_fields : ℕ → List ℕ
chart_fields region = line_of 0x43 (region ∷ row_for region)
