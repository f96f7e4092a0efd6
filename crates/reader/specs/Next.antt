-- One step of the sequential reader: the refusals in their order, the end, and what a record gives.
use Rattle.std.specs.Prelude.{ℕ, ◌+◌, ◌-◌, ◌^◌, min, ltb, ℤ, pos, length, Bool, true, false, cond, List, Option, None, Some, Result, Ok, Err}
use Rattle.std.proofs.Math.IntN.{sub_ℕ}
use Rattle.layout.specs.Layout.{trace_limit, properties_part, payload_part}
use Rattle.layout.specs.Fields.{ticks_at, length_at, outgoing_at, session_at, end_place, end_at, kind_at, next_place}
use Rattle.reader.specs.declared.ZlfReader.{ZlfReader}
use Rattle.reader.specs.declared.Next.{Next}
use Rattle.reader.specs.declared.ReadError.{ReadError}
use Rattle.reader.specs.declared.ReadError.TheVariants.{TraceTooLong, InvalidPayloadLength, EofInHead, EofInPayload}

-- a number of 32 bits, read as signed: from 2 ^ 31 on it stands for the number that is less by 2 ^ 32
abbrev pub signed32 : ℕ → ℤ
signed32 n = cond (ltb n (2 ^ 31)) (pos n) (sub_ℕ n (2 ^ 32))

-- 01: "the count of records read, which stays at 2^64 - 1"
abbrev pub counted : ℕ → ℕ
counted count = min (count + 1) (2 ^ 64 - 1)

-- what a step answers: the refusal's number or 0, whether there is a record, its parts, the negative length of refusal 8, and the reader's place
-- and count afterwards; what is not said is 0
pub record NextTold : Type 0 where
  pub refusal : ℕ
  pub is_record : Bool
  pub offset : ℕ
  pub ticks : ℕ
  pub outgoing : Bool
  pub session : ℕ
  pub end_byte : ℕ
  pub kind : ℕ
  pub payload : ℕ
  pub size : ℕ
  pub negative : ℤ
  pub place : ℕ
  pub count : ℕ

-- 01: "After a refusal or the end both are as given"
abbrev pub no_record : ℕ → ℤ → ZlfReader → NextTold
no_record n z r =
    record {
      refusal = n;
      is_record = false;
      offset = 0;
      ticks = 0;
      outgoing = false;
      session = 0;
      end_byte = 0;
      kind = 0;
      payload = 0;
      size = 0;
      negative = z;
      place = r.place;
      count = r.count;
    }

-- a record's answer, from the values in their order
abbrev pub record_of : ℕ → ℕ → Bool → ℕ → ℕ → ℕ → ℕ → ℕ → ZlfReader → NextTold
record_of o t b i e k p n r =
    record {
      refusal = 0;
      is_record = true;
      offset = o;
      ticks = t;
      outgoing = b;
      session = i;
      end_byte = e;
      kind = k;
      payload = p;
      size = n;
      negative = pos 0;
      place = r.place;
      count = r.count;
    }

-- 01: "The reader's place goes in by value and comes back moved on": to the next record
abbrev pub moved_on : List ℕ → ZlfReader → ZlfReader
moved_on s r = record { place = next_place s r.place; count = counted r.count }

-- 01: "It answers place, stored ticks, bit 7, session, end byte, kind, payload place and length"
abbrev pub record_told : List ℕ → List ℕ → ZlfReader → NextTold
record_told kinds s r =
    record_of
    r.place
    (ticks_at s r.place)
    (outgoing_at s r.place)
    (session_at s r.place)
    (end_at s r.place)
    (kind_at kinds s r.place)
    (r.place + payload_part)
    (length_at s r.place)
    (moved_on s r)

-- 01: "The sequential reader takes length 0 and unknown kinds; fewer than 8 bytes left is a plain end". The refusals: 1 "the trace is over
-- 1,073,741,824 bytes", 9 "the trace ends in properties or length", 8 "negative length (returned)", 10 "it ends in payload or end byte". There is
-- a length only where 9 is not given, so 8 and 9 never meet.
unfoldable pub next_of : List ℕ → List ℕ → ZlfReader → NextTold
next_of kinds s r =
    cond (ltb trace_limit (length s)) (no_record 1 (pos 0) r)
    (cond (ltb (length s) (r.place + properties_part)) (no_record 0 (pos 0) r)
    (cond (ltb (length s) (r.place + payload_part)) (no_record 9 (pos 0) r)
    (cond (ltb (length_at s r.place) (2 ^ 31))
    (cond (ltb (end_place s r.place) (length s)) (record_told kinds s r) (no_record 10 (pos 0) r))
    (no_record 8 (signed32 (length_at s r.place)) r))))

-- a refusal's number, as 01 has it
abbrev pub read_refusal : ReadError → ℕ
read_refusal TraceTooLong = 1
read_refusal (InvalidPayloadLength z) = 8
read_refusal EofInHead = 9
read_refusal EofInPayload = 10

-- each answer in the paper's numbers; without a record the reader is the one that was given
abbrev pub told_next : ZlfReader → Result (Option Next) ReadError → NextTold
told_next r (Ok (Some n)) =
    record_of
    n.«record».offset
    n.«record».raw_ticks
    n.«record».is_outcome
    n.«record».session_id
    n.«record».end
    n.«record».kind
    n.«record».payload_offset
    n.«record».payload_len
    n.reader
told_next r (Ok None) = no_record 0 (pos 0) r
told_next r (Err TraceTooLong) = no_record 1 (pos 0) r
told_next r (Err (InvalidPayloadLength z)) = no_record 8 z r
told_next r (Err EofInHead) = no_record 9 (pos 0) r
told_next r (Err EofInPayload) = no_record 10 (pos 0) r
