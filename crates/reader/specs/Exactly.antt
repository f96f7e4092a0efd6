-- When each answer is given, case by case: the plain statement of what `opened` and `next_of` compute.
use Rattle.std.specs.Prelude.{ℕ, ◌+◌, ◌≤◌, ◌<◌, ◌^◌, pos, length, take, List, ◌≡◌}
use Rattle.layout.specs.Layout.{le_at, header_size, trace_limit, properties_part, payload_part}
use Rattle.layout.specs.Fields.{length_at, end_place}
use Rattle.reader.specs.declared.ZlfReader.{ZlfReader}
use Rattle.checksum.specs.Sum.{sum_of}
use Rattle.reader.specs.Opening.{OpeningTold, opening_told, sum_part, version_of}
use Rattle.reader.specs.Next.{NextTold, signed32, no_record, record_told}

pub data Opens (s : List ℕ) (expected : ℕ) : OpeningTold → Type 0 where
  -- 1: "the trace is over 1,073,741,824 bytes"
  overlong : trace_limit < length s → Opens s expected (opening_told 1 0 0 0)
  -- 2: "under 2,048 bytes"
  short : length s ≤ trace_limit → length s < header_size → Opens s expected (opening_told 2 0 0 0)
  -- 3: "wrong sum"
  wrong_sum : length s ≤ trace_limit → header_size ≤ length s → (sum_of (take sum_part s) ≡ le_at 2 s sum_part → ⊥)
      → Opens s expected (opening_told 3 0 0 0)
  -- 4: "another version (returned)"
  another : length s ≤ trace_limit → header_size ≤ length s → sum_of (take sum_part s) ≡ le_at 2 s sum_part → (version_of s ≡ expected → ⊥)
      → Opens s expected (opening_told 4 (version_of s) 0 0)
  -- "opening gives 2,048 and 0"
  opens : length s ≤ trace_limit → header_size ≤ length s → sum_of (take sum_part s) ≡ le_at 2 s sum_part → version_of s ≡ expected
      → Opens s expected (opening_told 0 (version_of s) header_size 0)

pub data Steps (kinds s : List ℕ) (r : ZlfReader) : NextTold → Type 0 where
  -- 1: "the trace is over 1,073,741,824 bytes"
  overlong : trace_limit < length s → Steps kinds s r (no_record 1 (pos 0) r)
  -- "fewer than 8 bytes left is a plain end"
  ended : length s ≤ trace_limit → length s < r.place + properties_part → Steps kinds s r (no_record 0 (pos 0) r)
  -- 9: "the trace ends in properties or length"
  in_head : length s ≤ trace_limit → r.place + properties_part ≤ length s → length s < r.place + payload_part
      → Steps kinds s r (no_record 9 (pos 0) r)
  -- 8: "negative length (returned)"
  negative : length s ≤ trace_limit → r.place + payload_part ≤ length s → 2 ^ 31 ≤ length_at s r.place
      → Steps kinds s r (no_record 8 (signed32 (length_at s r.place)) r)
  -- 10: "it ends in payload or end byte"
  in_payload : length s ≤ trace_limit → r.place + payload_part ≤ length s → length_at s r.place < 2 ^ 31 → length s ≤ end_place s r.place
      → Steps kinds s r (no_record 10 (pos 0) r)
  -- a record, of any length from 0 on and of any kind
  reads : length s ≤ trace_limit → r.place + payload_part ≤ length s → length_at s r.place < 2 ^ 31 → end_place s r.place < length s
      → Steps kinds s r (record_told kinds s r)
