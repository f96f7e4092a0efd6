-- A PTI frame: its body has 18 bytes or more, and its fields are small. Assumes nothing.
use Prim.Native.Nat.{ℕ, suc, ◌+◌, ◌-◌, ◌≤◌, ◌<◌, min}
use lib.Dec.{eqb, ltb}
use lib.IntN.{pos, negsuc, nat_abs}
use lib.ListN.{length, get_or, take, drop}
use mathlib.Core.Bool.{Bool, true, false, cond}
use mathlib.Core.List.{List}
use mathlib.Core.Path.{◌≡◌, subst}
use mir.Syntax.{w8}
use mir.Val.{to_z, sel}
use native.Mathlib.Omega.{arith}
use borrow.Author.Tests.{ltb-true}
use Rattle.std.specs.Prelude.{Option, None, Some}
use Rattle.choice.proofs.Choice.{by_choice}
use Rattle.speed.specs.Speed.{key_of, at9600, at40_k, at100_k, at_long_range, among, speed_for}
use Rattle.beam.specs.Beam.{starts_marked, repeats, beam_count}
use Rattle.pti.specs.Frame.{tail_size, rssi_of, region_of, channel_of, speed_of, is_beam, fields_of, accepted, parts_of, sided_of, tagged_of, frame_of}
use Rattle.pti.specs.declared.PtiFrame.{PtiFrame}
use Rattle.pti.proofs.Mpdus.{mpdu_inside}

-- the fields of a frame but its MPDU's
pub record Radio (f : PtiFrame) : Type 0 where
  pub region : f.region < 256
  pub channel : f.channel < 256
  pub speed : f.speed < 256
  pub rssi : nat_abs f.rssi ≤ 256
  pub beams : f.beam_count < 65536

-- a byte read as signed; of a number that is no byte too
signed_by : (t : Bool) (b : ℕ) → (t ≡ true → b < 128) → nat_abs (sel t (pos b) (negsuc (256 - suc b))) ≤ 256
signed_by true b h = let l : b < 128 = h (λ i. true) in omega arith
signed_by false b h = omega arith

pub signed_small : (b : ℕ) → nat_abs (to_z w8 b) ≤ 256
signed_small b = signed_by (ltb b 128) b (ltb-true b 128)

speed_by : (a b c d : Bool) → cond a 0 (cond b 1 (cond c 2 (cond d 3 0))) < 256
speed_by true b c d = omega arith
speed_by false true c d = omega arith
speed_by false false true d = omega arith
speed_by false false false true = omega arith
speed_by false false false false = omega arith

speed_small : (channel region : ℕ) → speed_for channel region < 256
unfolding speed_for
speed_small channel region =
    let k = key_of channel region in
    speed_by (among k at9600) (among k at40_k) (among k at100_k) (among k at_long_range)

count_small : (size : ℕ) (part : List ℕ) → beam_count size part < 65536
unfolding beam_count
count_small size part =
    by_choice (λ (n : ℕ). n < 65536) (eqb size 0) {a = 1} {b = min 65535 (1 + repeats (starts_marked (take size part)) size 0 (drop size part))}
    (λ e. omega arith)
    (λ e. omega arith)

rssi_small : (sent : Bool) (tail : List ℕ) → nat_abs (rssi_of sent tail) ≤ 256
rssi_small true tail = omega arith
rssi_small false tail = signed_small (get_or tail 1 0)

-- what a body of n bytes may hold
Holds : ℕ → Option PtiFrame → Type 0
Holds n (Some f) = (18 ≤ n) × Radio f
Holds n None = Unit

parts_hold : (n place : ℕ) (sent : Bool) (part tail : List ℕ) → 18 ≤ n → Holds n (parts_of place sent part tail)
unfolding Holds parts_of
parts_hold n place sent part tail h =
    by_choice (Holds n) (accepted sent part tail) {a = Some (fields_of place sent part tail)} {b = None}
    (λ e. (
      h,
      record {
        region = omega arith;
        channel = omega arith;
        speed = speed_small (channel_of sent tail) (region_of sent tail);
        rssi = rssi_small sent tail;
        beams =
            by_choice (λ (k : ℕ). k < 65536) (is_beam part) {a = beam_count (cond (eqb (speed_of sent tail) 3) 4 3) part} {b = 0}
            (λ b. count_small (cond (eqb (speed_of sent tail) 3) 4 3) part) (λ b. omega arith);
      },
    ))
    (λ e. tt)

module _ (body : List ℕ) where
  sided_holds : (header : ℕ) (sent : Bool) → 12 ≤ header → Holds (length body) (sided_of header sent body)
  unfolding sided_of Holds
  sided_holds header sent h =
      let part = take (length body - tail_size sent - header) (drop header body) in
      let tail = drop (length body - tail_size sent) body in
      by_choice (Holds (length body)) (ltb (header + tail_size sent) (length body)) {a = parts_of header sent part tail} {b = None}
      (λ e. parts_hold (length body) header sent part tail (longer sent (ltb-true (header + tail_size sent) (length body) e)))
      (λ e. tt)
    where
      longer : (sent : Bool) → header + tail_size sent < length body → 18 ≤ length body
      longer true l = omega arith
      longer false l = omega arith

  tagged_holds : (header : ℕ) → 12 ≤ header → Holds (length body) (tagged_of header body)
  unfolding tagged_of Holds
  tagged_holds header h =
      by_choice (Holds (length body)) (eqb (get_or body (header - 1) 0) 0xF8) (λ e. sided_holds header false h)
      (λ e. by_choice (Holds (length body)) (eqb (get_or body (header - 1) 0) 0xFC) (λ z. sided_holds header true h) (λ z. tt))

  holds : Holds (length body) (frame_of body)
  unfolding frame_of Holds
  holds =
      by_choice (Holds (length body)) (eqb (get_or body 0 0) 2) (λ e. tagged_holds 12 (omega arith))
      (λ e. by_choice (Holds (length body)) (eqb (get_or body 0 0) 3) (λ z. tagged_holds 19 (omega arith)) (λ z. tt))

  -- of a frame that a body holds
  pub body_frame : (f : PtiFrame) → frame_of body ≡ Some f → (18 ≤ length body) × (Radio f × (f.mpdu + f.mpdu_len ≤ length body))
  unfolding Holds
  body_frame f e = let h : Holds (length body) (Some f) = subst (Holds (length body)) e holds in (h.0, (h.1, mpdu_inside body f e))
