-- The record test: the six conditions of a valid record, and what reading one answers.
use Rattle.std.specs.Prelude.{ℕ, ◌+◌, ltb, leb, eqb, ℤ, pos, length, get_or, Bool, true, false, not, cond, ◌&&◌, ◌||◌, List, [], ◌∷◌, Option, None, Some, Result, Ok, Err}
use Rattle.ticks.specs.Ticks.{cleared, unix_millis}
use Rattle.layout.specs.Layout.{trace_limit, payload_part}
use Rattle.layout.specs.Fields.{ticks_at, outgoing_at, session_at, length_at, end_place, end_at, kind_at, next_place}
use Rattle.layout.specs.declared.TraceTooLong.{TraceTooLong}
use Rattle.record.specs.declared.RecordHeader.{RecordHeader}

-- the ticks that a record may have, both ends accepted
pub record Limits : Type 0 where
  pub low : ℕ
  pub high : ℕ

-- 01: "from 630,822,816,000,000,000 to 662,479,488,000,000,000, both ends accepted"
abbrev pub plausible : Limits
plausible = record { low = 630822816000000000; high = 662479488000000000 }

-- the six conditions, in 01's order. 1: "13 bytes are there"
abbrev pub head_there : List ℕ → ℕ → Bool
head_there s at = leb (at + payload_part) (length s)

-- 2: "ticks with the top two bits cleared are from .. to .."
abbrev pub ticks_in : Limits → ℕ → Bool
ticks_in limits ticks = leb limits.low ticks && leb ticks limits.high

-- 3: "the signed length is 1 to 1,048,576"; a negative length reads as 2 ^ 31 or more, which is turned away too
abbrev pub length_in : ℕ → Bool
length_in n = leb 1 n && leb n 1048576

-- 4: "the end byte's offset .. is below the trace's length"
abbrev pub end_inside : List ℕ → ℕ → Bool
end_inside s at = ltb (end_place s at) (length s)

-- 5: "the end byte's kind is not 0"
abbrev pub kind_known : ℕ → Bool
kind_known kind = not (eqb kind 0)

-- 6: "for kinds 1 and 2 the payload's first byte is 0x5B"
abbrev pub opens_right : ℕ → ℕ → Bool
opens_right kind first = not (eqb kind 1 || eqb kind 2) || eqb first 0x5B

-- 01: "At an offset it is valid when, in this order: .."
abbrev pub conditions : Limits → List ℕ → List ℕ → ℕ → List Bool
conditions limits kinds s at =
    head_there s at
    ∷ ticks_in limits (cleared (ticks_at s at))
    ∷ length_in (length_at s at)
    ∷ end_inside s at
    ∷ kind_known (kind_at kinds s at)
    ∷ opens_right (kind_at kinds s at) (get_or s (at + payload_part) 0)
    ∷ []

abbrev pub all_hold : List Bool → Bool
all_hold [] = true
all_hold (b ∷ bs) = b && all_hold bs

unfoldable pub valid : Limits → List ℕ → List ℕ → ℕ → Bool
valid limits kinds s at = all_hold (conditions limits kinds s at)

-- the record test: the place after the valid record at a place, or none
unfoldable pub next_at : Limits → List ℕ → List ℕ → ℕ → Option ℕ
next_at limits kinds s at = cond (valid limits kinds s at) (Some (next_place s at)) None

-- what reading a record answers: the refusal's number or 0, whether the record is valid, and its fields; what is not said is 0
pub record RecordTold : Type 0 where
  pub refusal : ℕ
  pub is_valid : Bool
  pub offset : ℕ
  pub ticks : ℕ
  pub outgoing : Bool
  pub session : ℕ
  pub size : ℕ
  pub end_byte : ℕ
  pub kind : ℕ
  pub next : ℕ
  pub millis : ℤ

abbrev pub no_record : ℕ → RecordTold
no_record n = record { refusal = n; is_valid = false; offset = 0; ticks = 0; outgoing = false; session = 0; size = 0; end_byte = 0; kind = 0; next = 0; millis = pos 0 }

-- the fields of a valid record
abbrev pub fields_at : List ℕ → List ℕ → ℕ → RecordTold
fields_at kinds s at =
    record {
      refusal = 0;
      is_valid = true;
      offset = at;
      ticks = ticks_at s at;
      outgoing = outgoing_at s at;
      session = session_at s at;
      size = length_at s at;
      end_byte = end_at s at;
      kind = kind_at kinds s at;
      next = next_place s at;
      millis = unix_millis (ticks_at s at);
    }

-- refusal 1: "the trace is over 1,073,741,824 bytes (all calls on a trace)"
unfoldable pub record_at : Limits → List ℕ → List ℕ → ℕ → RecordTold
record_at limits kinds s at =
    cond (ltb trace_limit (length s)) (no_record 1)
    (cond (valid limits kinds s at) (fields_at kinds s at) (no_record 0))

-- each answer in the paper's numbers
abbrev pub told_record : Result (Option RecordHeader) TraceTooLong → RecordTold
told_record (Ok (Some h)) =
    record {
      refusal = 0;
      is_valid = true;
      offset = h.offset;
      ticks = h.raw_ticks;
      outgoing = h.is_outcome;
      session = h.session_id;
      size = h.payload_len;
      end_byte = h.end;
      kind = h.kind;
      next = h.next_offset;
      millis = pos h.unix_millis;
    }
told_record (Ok None) = no_record 0
told_record (Err refusal) = no_record 1
