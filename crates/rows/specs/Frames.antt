-- The frames of a record's payload, in order, each with the place in the payload after the bytes that hold it.
use Rattle.std.specs.Prelude.{ℕ, ◌+◌, ◌-◌, eqb, take, drop, Bool, ◌||◌, cond, Option, None, Some}
use mathlib.Core.List.{List, [], ◌∷◌, ◌++◌, flat_map}
use Rattle.std.specs.Int.{w8}
use Rattle.std.proofs.Common.{to_z}
use Rattle.bracket.specs.Bracket.{Piece, bodies_from}
use Rattle.pti.specs.Frame.{direction_of, frame_of}
use Rattle.pti.specs.declared.PtiFrame.{PtiFrame}
use Rattle.zniffer_numbers.specs.Numbers.{fresh_core}
use Rattle.zniffer_core.specs.Run.{core_step_of}
use Rattle.zniffer_numbers.specs.declared.Core.{Core}
use Rattle.zniffer_numbers.specs.declared.ParserResult.{ParserResult}
use Rattle.zniffer_numbers.specs.declared.ParserResult.TheVariants.{ValidCommand, ValidFrame, IncompleteFrame, InvalidFrame}
use Rattle.rows.specs.declared.NextFrame.{NextFrame}

-- a frame, its MPDU's place counted in the payload, and the place after the bytes that hold it
pub record Placed : Type 0 where
  pub frame : PtiFrame
  pub next : ℕ

-- a body's frame, its MPDU's place counted from where the body stands
abbrev pub shifted : ℕ → PtiFrame → PtiFrame
shifted place f =
    record {
      direction = f.direction;
      region = f.region;
      channel = f.channel;
      speed = f.speed;
      rssi = f.rssi;
      beam_count = f.beam_count;
      mpdu = place + f.mpdu;
      mpdu_len = f.mpdu_len;
    }

-- the frame of a body, if it holds one; one byte, 0x5D, stands after a body
abbrev pub held_by : ℕ → ℕ → Option PtiFrame → List Placed
held_by at len (Some f) = record { frame = shifted at f; next = at + len + 1 } ∷ []
held_by at len None = []

abbrev pub held_in : List ℕ → Piece → List Placed
held_in payload b = held_by b.at b.len (frame_of (take b.len (drop b.at payload)))

-- 01: "Kinds 1 and 2 give PTI frames": those of the bodies that hold one, in order, from a place on
unfoldable pub pti_from : List ℕ → ℕ → List Placed
pti_from payload at = flat_map (held_in payload) (bodies_from payload at)

-- a Zniffer frame whose n bytes end at a place. 01: "A Zniffer frame takes its direction from bit 7"
abbrev pub zniffer_frame : Bool → ℕ → ℕ → ℕ → ℕ → ℕ → ℕ → PtiFrame
zniffer_frame outgoing end channel speed region rssi n =
    record {
      direction = direction_of outgoing;
      region = region;
      channel = channel;
      speed = speed;
      rssi = to_z w8 rssi;
      beam_count = 0;
      mpdu = end - n;
      mpdu_len = n;
    }

-- the frame that a byte completes, whose payload's bytes end there
abbrev pub completed : Bool → ℕ → ParserResult → List Placed
completed outgoing end (ValidFrame w k v g r n) = record { frame = zniffer_frame outgoing end k v g r n; next = end } ∷ []
completed outgoing end (ValidCommand i n) = []
completed outgoing end IncompleteFrame = []
completed outgoing end InvalidFrame = []

-- the frames that some bytes, which begin at a place, complete, one byte after the other, in a parser with some numbers
unfoldable pub completed_by : Bool → ℕ → List ℕ → Core → List Placed
completed_by outgoing at [] c = []
completed_by outgoing at (b ∷ bs) c =
    completed outgoing (at + 1) (core_step_of c b).result ++ completed_by outgoing (at + 1) bs (core_step_of c b).core

-- 01: "kind 3 Zniffer frames .. each record starts a fresh parser"
abbrev pub zniffer_from : Bool → List ℕ → ℕ → List Placed
zniffer_from outgoing payload at = completed_by outgoing at (drop at payload) fresh_core

-- 01: "Kinds 1 and 2 give PTI frames, kind 3 Zniffer frames, the others no rows"
unfoldable pub frames_from : ℕ → Bool → List ℕ → ℕ → List Placed
frames_from kind outgoing payload at =
    cond (eqb kind 1 || eqb kind 2) (pti_from payload at) (cond (eqb kind 3) (zniffer_from outgoing payload at) [])

-- the first of some frames
abbrev pub first_of : List Placed → Option NextFrame
first_of [] = None
first_of (f ∷ fs) = Some (record { frame = f.frame; next = f.next })
