-- What the tests of `Parts::frame` say of a frame, and its fields. `tag` is the end tag as the code has it, and a tail's bytes are counted from
-- its end, where they stand for a receive and a transmit alike. Assumes nothing.
use Prim.Native.Nat.{ℕ, ◌+◌, ◌-◌, ◌%◌}
use lib.Dec.{eqb}
use lib.IntN.{ℤ}
use lib.ListN.{length, get_or}
use mathlib.Core.Bool.{Bool, true, false, ◌||◌, or-true, and-false}
use mathlib.Core.List.{List}
use mathlib.Core.Path.{◌≡◌, refl, sym, ap, ◌∙◌}
use native.Mathlib.Omega.{arith}
use borrow.Author.Tests.{eq-eqb, ne_eqb}
use Rattle.std.specs.Prelude.{None, Some}
use Rattle.speed.specs.Speed.{speed_for}
use Rattle.pti.specs.Frame.{direction_of, tail_size, rssi_size, region_of, channel_of, protocol_of, rssi_of, end_tag, is_beam, beams_of, mpdu_length, parts_of}

layout : (sent : Bool) → tail_size sent ≡ rssi_size sent + 5
layout true = refl
layout false = refl

module _ (place : ℕ) (sent : Bool) (part tail : List ℕ) where
  abbrev ended : Bool
  ended = eqb (get_or tail 0 0) (end_tag sent) || is_beam part

  pub succeeded : (tag : ℕ) → tag ≡ end_tag sent → get_or tail 0 0 ≡ tag → ended ≡ true
  succeeded tag e h = simp (eq-eqb (get_or tail 0 0) (end_tag sent) (h ∙ e))

  pub beamed : true ≡ is_beam part → ended ≡ true
  beamed h = simp (sym h, or-true)

  pub failed : (tag : ℕ) → tag ≡ end_tag sent → (get_or tail 0 0 ≡ tag → ⊥) → false ≡ is_beam part → None ≡ parts_of place sent part tail
  unfolding parts_of
  failed tag e h n = simp (ne_eqb (get_or tail 0 0) (end_tag sent) (rw e at h), sym n)

  module _ (size : length tail ≡ tail_size sent) where
    read : (k n : ℕ) → k + n ≡ 5 → get_or tail (length tail - k) 0 ≡ get_or tail (rssi_size sent + n) 0
    read k n h = let i : length tail - k ≡ rssi_size sent + n = omega (arith, layout sent) in ap (λ (j : ℕ). get_or tail j 0) i

    module _ (protocol : ℕ) (e : protocol ≡ get_or tail (length tail - 2) 0 % 16) where
      is_protocol : protocol ≡ protocol_of sent tail
      is_protocol = e ∙ ap (λ (b : ℕ). b % 16) (read 2 3 refl)

      pub foreign : (protocol ≡ 6 → ⊥) → None ≡ parts_of place sent part tail
      unfolding parts_of
      foreign h = simp (ne_eqb (protocol_of sent tail) 6 (rw is_protocol at h), and-false)

      -- the fields, as the code has read them one by one
      pub framed : (direction region channel speed beams len : ℕ) (rssi : ℤ)
          → ended ≡ true
          → protocol ≡ 6
          → direction ≡ direction_of sent
          → region ≡ get_or tail (length tail - 4) 0 % 16
          → channel ≡ get_or tail (length tail - 3) 0 % 16
          → speed ≡ speed_for channel region
          → rssi ≡ rssi_of sent tail
          → beams ≡ beams_of speed part
          → len ≡ mpdu_length part
          → Some (record {
            direction = direction;
            region = region;
            channel = channel;
            speed = speed;
            rssi = rssi;
            beam_count = beams;
            mpdu = place;
            mpdu_len = len;
          })
          ≡ parts_of place sent part tail
      unfolding parts_of
      framed direction region channel speed beams len rssi well known d r c s i b l =
          let is_region : region ≡ region_of sent tail = r ∙ ap (λ (b : ℕ). b % 16) (read 4 1 refl) in
          let is_channel : channel ≡ channel_of sent tail = c ∙ ap (λ (b : ℕ). b % 16) (read 3 2 refl) in
          simp (well, eq-eqb (protocol_of sent tail) 6 (sym is_protocol ∙ known)) (rw (d, l, b, i, s, is_channel, is_region))

pub ruleset frames = (succeeded, beamed, failed, foreign, framed)
