-- The beam count of a frame from a bracket record's body, and of every row of a trace. Assumes nothing.
use Prim.Native.Nat.{ℕ, ◌+◌, ◌-◌, ◌*◌, ◌<◌, ◌≤◌}
use lib.Dec.{eqb, ltb}
use lib.ListN.{length, get_or, take, drop, length-take, get_or-eq_default}
use lib.Seq.{get_or-take, get_or-drop}
use mathlib.Core.Bool.{Bool, true, false, ◌||◌}
use mathlib.Core.List.Memᴰ
use mathlib.Core.List.{List, [], ◌∷◌, Memᴰ}
use mathlib.Core.Logic.{⊎_elim}
use mathlib.Core.Path.{◌≡◌, refl, ap}
use native.Mathlib.Decide.{dec_le}
use native.Mathlib.Omega.{arith}
use Rattle.std.proofs.lemmas.Bool.Decides.{nat_tests}
use Rattle.choice.proofs.Choice.{by_choice}
use Rattle.choice.proofs.Flat.{flat_each}
use Rattle.layout.specs.Layout.{payload_part}
use Rattle.layout.specs.Fields.{length_at, kind_at, outgoing_at}
use Rattle.bracket.specs.Bracket.{Piece, bodies}
use Rattle.beam.specs.Beam.{beam_count, repeats, starts}
use Rattle.speed.specs.Speed.{speed_for, among}
use Rattle.pti.specs.Frame.{tail_size, parts_of, sided_of, tagged_of, frame_of}
use Rattle.pti.specs.declared.PtiFrame.{PtiFrame}
use Rattle.std.specs.Prelude.{Option, None, Some}
use Rattle.zniffer_numbers.specs.declared.Core.{Core}
use Rattle.zniffer_numbers.specs.declared.ParserResult.{ParserResult}
use Rattle.zniffer_numbers.specs.declared.ParserResult.TheVariants.{ValidCommand, ValidFrame, IncompleteFrame, InvalidFrame}
use Rattle.zniffer_numbers.specs.Numbers.{fresh_core}
use Rattle.zniffer_core.specs.Run.{core_step_of}
use Rattle.rows.specs.Frames.{Placed, held_by, held_in, pti_from, completed, completed_by, frames_from}
use Rattle.rows.specs.Rows.{payload_at, numbered, rows_at}
use Rattle.rows.specs.declared.Row.{Row}
use Rattle.bundles.specs.Bundles.{bytes_of}
use Rattle.bundles.specs.Beams.{body_most, frame_beams_most, beams_told}
use Rattle.bundles.specs.Examples.{beam}
use Rattle.bundles.proofs.Beams.{few_beams, body_short}

abbrev Few : Option PtiFrame → Type 0
Few r = beams_told r ≤ frame_beams_most

some_beams : (size : ℕ) (part : List ℕ) → 3 ≤ size → length part < 3 * (frame_beams_most + 1) → beam_count size part ≤ frame_beams_most
some_beams size part three h = few_beams size three part frame_beams_most (omega arith) h (omega arith)

parts_few : (place : ℕ) (sent : Bool) (part tail : List ℕ) → length part < 3 * (frame_beams_most + 1) → Few (parts_of place sent part tail)
unfolding parts_of
parts_few place sent part tail h = grind (arith, nat_tests, some_beams)

tail_five : (sent : Bool) → 5 ≤ tail_size sent
tail_five true = omega arith
tail_five false = omega arith

-- a body as long as that of a bracket record
module _ (body : List ℕ) (short : length body ≤ body_most) where
  module _ (header : ℕ) (twelve : 12 ≤ header) where
    sided_few : (sent : Bool) → Few (sided_of header sent body)
    unfolding sided_of
    sided_few sent =
        let size = length body - tail_size sent - header in
        by_choice Few (ltb (header + tail_size sent) (length body)) {b = None}
        (λ (t : ltb (header + tail_size sent) (length body) ≡ true).
        parts_few header sent (take size (drop header body)) (drop (length body - tail_size sent) body)
        (omega (arith, tail_five sent, length-take size (drop header body))))
        (λ (t : ltb (header + tail_size sent) (length body) ≡ false). omega arith)

    tagged_few : Few (tagged_of header body)
    unfolding tagged_of
    tagged_few = grind (arith, nat_tests, sided_few)

  frame_few : Few (frame_of body)
  unfolding frame_of
  frame_few = grind (arith, nat_tests, tagged_few)

-- so many there can be
pub frame_reached : (length beam ≡ body_most) × (beams_told (frame_of beam) ≡ frame_beams_most)
unfolding frame_of tagged_of sided_of parts_of beam_count repeats starts speed_for among
frame_reached = (refl, refl)

-- the frames of a payload of bytes, of any kind: a Zniffer frame is no beam
module _ (p : List ℕ) (bytes : (k : ℕ) → get_or p k 0 < 256) where
  abbrev FewIn : Placed → Type 0
  FewIn x = x.frame.beam_count ≤ frame_beams_most

  held_few : (at len : ℕ) (r : Option PtiFrame) → Few r → (x : Placed) → Memᴰ x (held_by at len r) → FewIn x
  held_few at len (Some f) h x m = omega (arith, ap (λ (y : Placed). y.frame.beam_count) (Memᴰ.eq_of_singleton m))
  held_few at len None h x m = absurd (Memᴰ.not-nil m)

  pub pti_few : (x : Placed) → Memᴰ x (pti_from p 0) → FewIn x
  unfolding pti_from
  pti_few =
      flat_each FewIn (held_in p) (bodies p)
      (λ (b : Piece) (m : Memᴰ b (bodies p)).
      held_few b.at b.len (frame_of (bytes_of p b))
      (frame_few (bytes_of p b) (omega (arith, body_short p bytes b m, length-take b.len (drop b.at p)))))

  completed_few : (out : Bool) (end : ℕ) (r : ParserResult) (x : Placed) → Memᴰ x (completed out end r) → FewIn x
  completed_few out end (ValidFrame w k v g r n) x m = omega (arith, ap (λ (y : Placed). y.frame.beam_count) (Memᴰ.eq_of_singleton m))
  completed_few out end (ValidCommand i n) x m = absurd (Memᴰ.not-nil m)
  completed_few out end IncompleteFrame x m = absurd (Memᴰ.not-nil m)
  completed_few out end InvalidFrame x m = absurd (Memᴰ.not-nil m)

  zniffer_few : (out : Bool) (at : ℕ) (l : List ℕ) (c : Core) (x : Placed) → Memᴰ x (completed_by out at l c) → FewIn x
  unfolding completed_by
  zniffer_few out at [] c x m = absurd (Memᴰ.not-nil m)
  zniffer_few out at (b ∷ l) c x m =
      ⊎_elim (completed_few out (at + 1) (core_step_of c b).result x) (zniffer_few out (at + 1) l (core_step_of c b).core x)
      (Memᴰ.append_cases (completed out (at + 1) (core_step_of c b).result) m)

  pub frames_few : (kind : ℕ) (out : Bool) (x : Placed) → Memᴰ x (frames_from kind out p 0) → FewIn x
  unfolding frames_from
  frames_few kind out x =
      by_choice (λ (l : List Placed). Memᴰ x l → FewIn x) (eqb kind 1 || eqb kind 2)
      (λ (t : (eqb kind 1 || eqb kind 2) ≡ true). pti_few x)
      (λ (t : (eqb kind 1 || eqb kind 2) ≡ false).
      by_choice (λ (l : List Placed). Memᴰ x l → FewIn x) (eqb kind 3) {b = []}
      (λ (u : eqb kind 3 ≡ true). zniffer_few out 0 (drop 0 p) fresh_core x)
      (λ (u : eqb kind 3 ≡ false) (m : Memᴰ x []). absurd (Memᴰ.not-nil m)))

-- every row of a trace of bytes
module _ (kinds s : List ℕ) (bytes : (k : ℕ) → get_or s k 0 < 256) (at : ℕ) where
  payload_bytes : (k : ℕ) → get_or (payload_at s at) k 0 < 256
  payload_bytes k = by (dec_le (length_at s at) k)
    where
      by : Dec (length_at s at ≤ k) → get_or (payload_at s at) k 0 < 256
      by (yes h) = omega (arith, get_or-eq_default (payload_at s at) 0 {n = k} (omega (arith, length-take (length_at s at) (drop (at + payload_part) s))))
      by (no h) =
          omega (
            arith,
            get_or-take (length_at s at) (drop (at + payload_part) s) k 0 (omega arith),
            get_or-drop (at + payload_part) s k 0,
            bytes (at + payload_part + k),
          )

  numbered_few : (position : ℕ) (fs : List Placed) → ((x : Placed) → Memᴰ x fs → x.frame.beam_count ≤ frame_beams_most)
      → (r : Row) → Memᴰ r (numbered s at position fs) → r.beam_count ≤ frame_beams_most
  unfolding numbered
  numbered_few position [] h r m = absurd (Memᴰ.not-nil m)
  numbered_few position (x ∷ fs) h r m =
      ⊎_elim
      (λ e. omega (arith, ap (λ (y : Row). y.beam_count) e, h x (Memᴰ.head refl)))
      (numbered_few (position + 1) fs (λ (y : Placed) (k : Memᴰ y fs). h y (Memᴰ.tail k)) r)
      (Memᴰ.cases_cons m)

  pub rows_few : (r : Row) → Memᴰ r (rows_at kinds s at) → r.beam_count ≤ frame_beams_most
  unfolding rows_at
  rows_few =
      numbered_few 0 (frames_from (kind_at kinds s at) (outgoing_at s at) (payload_at s at) 0)
      (frames_few (payload_at s at) payload_bytes (kind_at kinds s at) (outgoing_at s at))
