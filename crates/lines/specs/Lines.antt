-- The lines of a list: a letter, its fields each after a space, and the line's end.
use Rattle.std.specs.Prelude.{ℕ, eqb, cond, List, [], ◌∷◌, ◌++◌}
use Rattle.text.specs.Put.{Puts}
use Rattle.text.specs.declared.Out.{Out}
use Rattle.text.specs.Texts.{space, decimal_text, signed_text}
use Rattle.rows.specs.declared.Row.{Row}

abbrev pub newline : ℕ
newline = 0x0A

-- fields, each after a space
unfoldable pub spaced : List (List ℕ) → List ℕ
spaced [] = []
spaced (f ∷ fs) = (space ∷ f) ++ spaced fs

-- fields, put into a buffer
pub record Fields (fields : List (List ℕ)) (before after : Out) : Type 0 where
  pub puts : Puts (spaced fields) before after

-- a letter, and fields after it
abbrev pub lettered : ℕ → List (List ℕ) → List ℕ
lettered letter fields = letter ∷ spaced fields

unfoldable pub line_text : ℕ → List (List ℕ) → List ℕ
line_text letter fields = lettered letter fields ++ (newline ∷ [])

-- `R` received, `T` sent
abbrev pub side_of : ℕ → ℕ
side_of direction = cond (eqb direction 0) 0x52 0x54

-- 01: "record offset, position in the record, milliseconds, gap to the previous row's time"
abbrev pub origin_fields : Row → List (List ℕ)
origin_fields r = decimal_text r.«record» ∷ decimal_text r.position ∷ signed_text r.millis ∷ signed_text r.gap ∷ []

-- 01: "direction, region, channel, speed"
abbrev pub radio_fields : Row → List (List ℕ)
radio_fields r = (side_of r.direction ∷ []) ∷ decimal_text r.region ∷ decimal_text r.channel ∷ decimal_text r.speed ∷ []

-- 01: "RSSI signed, beam count (0 for no beam), MPDU offset in the trace, MPDU length"
abbrev pub mpdu_fields : Row → List (List ℕ)
mpdu_fields r = signed_text r.rssi ∷ decimal_text r.beam_count ∷ decimal_text r.mpdu ∷ decimal_text r.mpdu_len ∷ []

abbrev pub row_fields : Row → List (List ℕ)
row_fields r = origin_fields r ++ (radio_fields r ++ mpdu_fields r)

-- 01: "F's fields are the row's in order, R or T for direction"
unfoldable pub row_text : Row → List ℕ
row_text r = line_text 0x46 (row_fields r)

-- 01: "`R n`", "`V version`", "`U place records` or `B place break records`, or `N`"
abbrev pub refusal_text : ℕ → List ℕ
refusal_text n = line_text 0x52 (decimal_text n ∷ [])

abbrev pub version_text : ℕ → List ℕ
version_text version = line_text 0x56 (decimal_text version ∷ [])

abbrev pub unbroken_text : ℕ → ℕ → List ℕ
unbroken_text place records = line_text 0x55 (decimal_text place ∷ decimal_text records ∷ [])

abbrev pub broken_text : ℕ → ℕ → ℕ → List ℕ
broken_text place stop records = line_text 0x42 (decimal_text place ∷ decimal_text stop ∷ decimal_text records ∷ [])

abbrev pub none_text : List ℕ
none_text = line_text 0x4E []
