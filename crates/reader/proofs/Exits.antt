-- Each way out of a step of the reader, from the facts that lead there. Assumes nothing.
use Prim.Native.Nat.{ℕ, ◌+◌, ◌≤◌, ◌<◌, ◌^◌}
use lib.IntN.{pos}
use lib.ListN.{length}
use mathlib.Core.List.{List}
use mathlib.Core.Path.{◌≡◌}
use borrow.Author.Tests.{lt-ltb, le-ltb}
use native.Mathlib.Omega.{arith}
use Rattle.layout.specs.Layout.{trace_limit, properties_part, payload_part}
use Rattle.layout.specs.Fields.{length_at, end_place}
use Rattle.reader.specs.declared.ZlfReader.{ZlfReader}
use Rattle.reader.specs.Next.{signed32, no_record, record_told, next_of}

module _ (kinds s : List ℕ) (r : ZlfReader) where
  pub too_long : trace_limit < length s → no_record 1 (pos 0) r ≡ next_of kinds s r
  unfolding next_of
  too_long h = simp (lt-ltb trace_limit (length s) h)

  module _ (short : length s ≤ trace_limit) where
    pub at_end : length s < r.place + properties_part → no_record 0 (pos 0) r ≡ next_of kinds s r
    unfolding next_of
    at_end h = simp (le-ltb trace_limit (length s) short, lt-ltb (length s) (r.place + properties_part) h)

    pub in_head_lem : r.place + properties_part ≤ length s → length s < r.place + payload_part → no_record 9 (pos 0) r ≡ next_of kinds s r
    unfolding next_of
    in_head_lem g h =
        simp (
          le-ltb trace_limit (length s) short,
          le-ltb (length s) (r.place + properties_part) g,
          lt-ltb (length s) (r.place + payload_part) h,
        )

    module _ (headed : r.place + payload_part ≤ length s) where
      pub negative : 2 ^ 31 ≤ length_at s r.place → no_record 8 (signed32 (length_at s r.place)) r ≡ next_of kinds s r
      unfolding next_of
      negative h =
          simp (
            le-ltb trace_limit (length s) short,
            le-ltb (length s) (r.place + properties_part) (omega arith),
            le-ltb (length s) (r.place + payload_part) headed,
            le-ltb (length_at s r.place) (2 ^ 31) h,
          )

      module _ (plain : length_at s r.place < 2 ^ 31) where
        pub in_payload_lem : length s ≤ end_place s r.place → no_record 10 (pos 0) r ≡ next_of kinds s r
        unfolding next_of
        in_payload_lem h =
            simp (
              le-ltb trace_limit (length s) short,
              le-ltb (length s) (r.place + properties_part) (omega arith),
              le-ltb (length s) (r.place + payload_part) headed,
              lt-ltb (length_at s r.place) (2 ^ 31) plain,
              le-ltb (end_place s r.place) (length s) h,
            )

        pub whole : end_place s r.place < length s → record_told kinds s r ≡ next_of kinds s r
        unfolding next_of
        whole h =
            simp (
              le-ltb trace_limit (length s) short,
              le-ltb (length s) (r.place + properties_part) (omega arith),
              le-ltb (length s) (r.place + payload_part) headed,
              lt-ltb (length_at s r.place) (2 ^ 31) plain,
              lt-ltb (end_place s r.place) (length s) h,
            )
