-- The test on a parser's numbers, `reachable_of`, holds of just those parsers that some bytes from a fresh one leave. Assumes nothing.
use Prim.Native.Nat.{ℕ, zero, suc, ◌<◌, ◌+◌, ◌*◌, ◌/◌, ◌%◌}
use lib.Dec.{ltb, eqb}
use mathlib.Core.Bool.{true, false, not, ◌&&◌, ◌||◌, or-false}
use mathlib.Core.Path.{◌≡◌, refl, subst, sym, ap, ◌∙◌}
use mathlib.Core.Logic.{◌↔◌}
use native.Mathlib.Omega.{arith}
use native.Mathlib.Numerals.{add-one}
use borrow.Author.Tests.{lt-ltb, ne_eqb, eqb-true, eqb-false, ltb-true, not-true}
use Rattle.zniffer_numbers.specs.declared.Core.{Core}
use Rattle.zniffer_numbers.specs.declared.CoreStep.{CoreStep}
use Rattle.zniffer_tests.specs.Tests.{command_ok, type_ok, region_ok, unfilled, no_region, no_channel, no_frame, typed, timed, placed, framed, quiet, headed, reachable_of}
use Rattle.zniffer_numbers.specs.Numbers.{core}
use Rattle.zniffer_states.specs.Step.{going}
use Rattle.zniffer_core.specs.Run.{core_step_of}
use Rattle.zniffer_laws.specs.Statements.{Reached, fresh_core_lem, byte_more, InType}
use Rattle.zniffer_core.proofs.RunLaws.{taken}
use Rattle.zniffer_core.proofs.Kept.{kept, whole_half, at_0, at_1, at_2, at_3, at_4, at_5, at_6, at_7, at_8, at_9, at_10}
use Rattle.choice.proofs.Choice.{left_true as left, right_true as right, either}

pub passes : {c : Core} → Reached c → reachable_of c ≡ true
passes fresh_core_lem = refl
passes (byte_more {c} r b fits) = rw (taken c b (passes r)) (kept c b fits)

-- the other way: bytes for each parser that passes the test
step_to : {c d : Core} → Reached c → (b : ℕ) → b < 256 → (core_step_of c b).core ≡ d → Reached d
step_to {c} r b fits e = subst Reached (ap (λ (t : CoreStep). t.core) (taken c b (passes r)) ∙ e) (byte_more r b fits)

to_1 : Reached (core 1 0 0 0 0 0 false 0 0 0 0)
unfolding core_step_of
to_1 = step_to fresh_core_lem 0x23 (omega arith) refl

to_4 : Reached (core 4 0 0 0 0 0 false 0 0 0 0)
unfolding core_step_of
to_4 = step_to fresh_core_lem 0x21 (omega arith) refl

to_2 : (i : ℕ) → command_ok i ≡ true → i < 256 → Reached (core 2 i 0 0 0 0 false 0 0 0 0)
unfolding core_step_of
to_2 i ok fits = step_to to_1 i fits (rw ok)

module _ (t : ℕ) (type_ok_lem : type_ok t ≡ true) (type_fits : t < 256) where
  to_5 : Reached (core 5 0 0 0 t 0 false 0 0 0 0)
  unfolding core_step_of
  to_5 = step_to to_4 t type_fits (rw type_ok_lem)

  to_5h : (k : ℕ) → k < 256 → Reached (core 5 0 0 0 t (k * 256) true 0 0 0 0)
  unfolding core_step_of
  to_5h k fits = step_to to_5 k fits (rw type_ok_lem)

  module _ (w : ℕ) (w_Fits : w < 65536) where
    both_halves : w / 256 * 256 + w % 256 ≡ w
    both_halves = omega arith

    to_6 : Reached (core 6 0 0 0 t w false 0 0 0 0)
    unfolding core_step_of
    to_6 = step_to (to_5h (w / 256) (omega arith)) (w % 256) (omega arith) (rw (type_ok_lem, whole_half (w / 256)) (rw both_halves))

    module _ (ch sp : ℕ) (ch_ok : ltb ch 8 ≡ true) (sp_ok : ltb sp 32 ≡ true) where
      to_7 : Reached (core 7 0 0 0 t w false ch sp 0 0)
      unfolding core_step_of
      to_7 =
          let lt = ltb-true ch 8 ch_ok in let lt' = ltb-true sp 32 sp_ok in
          let d : (ch * 32 + sp) / 32 ≡ ch = omega arith in let m : (ch * 32 + sp) % 32 ≡ sp = omega arith in
          step_to to_6 (ch * 32 + sp) (omega arith) (rw type_ok_lem (rw (d, m)))

      module _ (g : ℕ) (region_ok_lem : region_ok g ≡ true) (g_fits : g < 256) where
        to_8 : Reached (core 8 0 0 0 t w false ch sp g 0)
        unfolding core_step_of
        to_8 = step_to to_7 g g_fits (rw (type_ok_lem, ch_ok, sp_ok, region_ok_lem))

        module _ (r : ℕ) (r_fits : r < 256) where
          to_9 : Reached (core 9 0 0 0 t w false ch sp g r)
          unfolding core_step_of
          to_9 = step_to to_8 r r_fits (rw (type_ok_lem, ch_ok, sp_ok, region_ok_lem))

          to_10 : Reached (core 10 0 0 0 t w false ch sp g r)
          unfolding core_step_of
          to_10 = step_to to_9 0x21 (omega arith) (rw (type_ok_lem, ch_ok, sp_ok, region_ok_lem))

          to_2f : Reached (core 2 0 0 0 t w false ch sp g r)
          unfolding core_step_of
          to_2f = step_to to_10 0x03 (omega arith) (rw (type_ok_lem, ch_ok, sp_ok, region_ok_lem))

-- a whole header, and then the payload's bytes, of which any will do
module _ (i t w ch sp g r : ℕ) (ok : headed (core 2 i 0 0 t w false ch sp g r) ≡ true) (l : ℕ) where
  pub length_step : 0 < l → core_step_of (core 2 i 0 0 t w false ch sp g r) l ≡ going (core 3 i l 0 t w false ch sp g r)
  unfolding core_step_of
  length_step lt = rw (ok, ne_eqb l 0 (λ e. omega (arith, e, lt)))

  pub payload_step : (n b : ℕ) → n + 1 < l → core_step_of (core 3 i l n t w false ch sp g r) b ≡ going (core 3 i l (n + 1) t w false ch sp g r)
  unfolding core_step_of
  payload_step n b lt = rw (ok, lt-ltb n l (omega (arith, lt)), ne_eqb (n + 1) l (λ e. omega (arith, e, lt)))

  to_3 : Reached (core 2 i 0 0 t w false ch sp g r) → l < 256 → (n : ℕ) → n < l → Reached (core 3 i l n t w false ch sp g r)
  to_3 head l_fits zero lt = step_to head l l_fits (λ j. (length_step lt j).core)
  to_3 head l_fits (suc n) lt =
      let on : n + 1 < l = rw (add-one n) lt in
      rw (← add-one n) (step_to (to_3 head l_fits n (omega (arith, lt))) 0 (omega arith) (λ j. (payload_step n 0 on j).core))

-- what the tests say of the fields
module _ (c : Core) where
  unfilled_is : unfilled c ≡ true → (c.length ≡ 0) × (c.count ≡ 0)
  unfilled_is u = (eqb-true _ _ (left (eqb c.length 0) (eqb c.count 0) u), eqb-true _ _ (right (eqb c.length 0) (eqb c.count 0) u))

  no_region_is : no_region c ≡ true → (c.region ≡ 0) × (c.rssi ≡ 0)
  no_region_is u = (eqb-true _ _ (left (eqb c.region 0) (eqb c.rssi 0) u), eqb-true _ _ (right (eqb c.region 0) (eqb c.rssi 0) u))

  no_channel_is : no_channel c ≡ true → (c.channel ≡ 0) × (c.speed ≡ 0) × (c.region ≡ 0) × (c.rssi ≡ 0)
  no_channel_is u =
      let p = left (eqb c.channel 0 && eqb c.speed 0) (no_region c) u in
      let z = no_region_is (right (eqb c.channel 0 && eqb c.speed 0) (no_region c) u) in
      (eqb-true _ _ (left (eqb c.channel 0) (eqb c.speed 0) p), eqb-true _ _ (right (eqb c.channel 0) (eqb c.speed 0) p), z.0, z.1)

  -- a parser with no frame; with a frame's type and half of its time; with its time; with its channel; with its whole header
  no_frame_is : no_frame c ≡ true → (c.frame_type ≡ 0) × (c.timestamp ≡ 0) × (c.timestamp_state ≡ false) × (c.channel ≡ 0) × (c.speed ≡ 0) × (c.region ≡ 0) × (c.rssi ≡ 0)
  no_frame_is u =
      let first = left (eqb c.frame_type 0 && (eqb c.timestamp 0 && not c.timestamp_state)) (no_channel c) u in
      let time = right (eqb c.frame_type 0) (eqb c.timestamp 0 && not c.timestamp_state) first in
      let z = no_channel_is (right (eqb c.frame_type 0 && (eqb c.timestamp 0 && not c.timestamp_state)) (no_channel c) u) in (
        eqb-true _ _ (left (eqb c.frame_type 0) (eqb c.timestamp 0 && not c.timestamp_state) first),
        eqb-true _ _ (left (eqb c.timestamp 0) (not c.timestamp_state) time),
        not-true c.timestamp_state (right (eqb c.timestamp 0) (not c.timestamp_state) time),
        z.0,
        z.1,
        z.2,
        z.3,
      )

  timed_is : timed c ≡ true → (type_ok c.frame_type ≡ true) × (c.timestamp_state ≡ false)
  timed_is u = (left (type_ok c.frame_type) (not c.timestamp_state) u, not-true c.timestamp_state (right (type_ok c.frame_type) (not c.timestamp_state) u))

  placed_is : placed c ≡ true → (type_ok c.frame_type ≡ true) × (c.timestamp_state ≡ false) × (ltb c.channel 8 ≡ true) × (ltb c.speed 32 ≡ true)
  placed_is u =
      let t = timed_is (left (timed c) (ltb c.channel 8 && ltb c.speed 32) u) in let p = right (timed c) (ltb c.channel 8 && ltb c.speed 32) u in
      (t.0, t.1, left (ltb c.channel 8) (ltb c.speed 32) p, right (ltb c.channel 8) (ltb c.speed 32) p)

  framed_is : framed c ≡ true → (type_ok c.frame_type ≡ true) × (c.timestamp_state ≡ false) × (ltb c.channel 8 ≡ true) × (ltb c.speed 32 ≡ true) × (region_ok c.region ≡ true)
  framed_is u = let p = placed_is (left (placed c) (region_ok c.region) u) in (p.0, p.1, p.2, p.3, right (placed c) (region_ok c.region) u)

-- a parser that awaits a length after a frame start has no command's id
pub no_id : (c : Core) → reachable_of c ≡ true → c.state ≡ 2 → type_ok c.frame_type ≡ true → c.command_id ≡ 0
no_id c h s t =
    let hd = left (headed c) (unfilled c) (at_2 c h 0 (omega arith) s) in
    either (command_ok c.command_id && no_frame c)
    (λ yes'.
    let z : type_ok 0 ≡ true = rw (no_frame_is c (right (command_ok c.command_id) (no_frame c) yes')).0 at t in absurd (eqb-false 0 0 (sym z) refl))
    (λ no'. let q : (eqb c.command_id 0 && framed c) ≡ true = rw no' at hd in eqb-true c.command_id 0 (left (eqb c.command_id 0) (framed c) q))

module _ (c : Core) (in_type : InType c) where
  -- a quiet parser in the state s
  quiet_to : (s : ℕ) → Reached (core s 0 0 0 0 0 false 0 0 0 0) → c.state ≡ s → (quiet c && unfilled c) ≡ true → Reached c
  quiet_to s r e q =
      let f = no_frame_is c (right (eqb c.command_id 0) (no_frame c) (left (quiet c) (unfilled c) q)) in
      let i = eqb-true c.command_id 0 (left (eqb c.command_id 0) (no_frame c) (left (quiet c) (unfilled c) q)) in
      let u = unfilled_is c (right (quiet c) (unfilled c) q) in
      let same : core s 0 0 0 0 0 false 0 0 0 0 ≡ c = sym (λ j. core (e j) (i j) (u.0 j) (u.1 j) (f.0 j) (f.1 j) (f.2 j) (f.3 j) (f.4 j) (f.5 j) (f.6 j)) in
      subst Reached same r

  -- a frame's whole header
  header : framed c ≡ true → Reached (core 2 0 0 0 c.frame_type c.timestamp false c.channel c.speed c.region c.rssi)
  header u =
      let f = framed_is c u in
      to_2f c.frame_type f.0 in_type.type c.timestamp in_type.timestamp c.channel c.speed f.2 f.3 c.region f.4 in_type.region c.rssi in_type.rssi

  framed_to : (s : ℕ) → Reached (core s 0 0 0 c.frame_type c.timestamp false c.channel c.speed c.region c.rssi) → c.state ≡ s
      → (eqb c.command_id 0 && (framed c && unfilled c)) ≡ true → Reached c
  framed_to s r e q =
      let rest = right (eqb c.command_id 0) (framed c && unfilled c) q in
      let i = eqb-true c.command_id 0 (left (eqb c.command_id 0) (framed c && unfilled c) q) in
      let u = unfilled_is c (right (framed c) (unfilled c) rest) in let f = framed_is c (left (framed c) (unfilled c) rest) in
      let same : core s 0 0 0 c.frame_type c.timestamp false c.channel c.speed c.region c.rssi ≡ c =
      sym (λ j. core (e j) (i j) (u.0 j) (u.1 j) c.frame_type c.timestamp (f.1 j) c.channel c.speed c.region c.rssi) in
      subst Reached same r

  -- the header of either kind, at the parser's own numbers, and that it is one
  pub heads : headed c ≡ true → (Reached (core 2 c.command_id 0 0 c.frame_type c.timestamp false c.channel c.speed c.region c.rssi)) × (c.timestamp_state ≡ false)
  heads h =
      either (command_ok c.command_id && no_frame c)
      (λ yes'.
      let f = no_frame_is c (right (command_ok c.command_id) (no_frame c) yes') in
      let same : core 2 c.command_id 0 0 0 0 false 0 0 0 0 ≡ core 2 c.command_id 0 0 c.frame_type c.timestamp false c.channel c.speed c.region c.rssi =
      sym (λ j. core 2 c.command_id 0 0 (f.0 j) (f.1 j) false (f.3 j) (f.4 j) (f.5 j) (f.6 j)) in
      (subst Reached same (to_2 c.command_id (left (command_ok c.command_id) (no_frame c) yes') in_type.command), f.2))
      (λ no'.
      let q : (eqb c.command_id 0 && framed c) ≡ true = rw no' at h in
      let i = eqb-true c.command_id 0 (left (eqb c.command_id 0) (framed c) q) in let u = right (eqb c.command_id 0) (framed c) q in
      let same : core 2 0 0 0 c.frame_type c.timestamp false c.channel c.speed c.region c.rssi ≡ core 2 c.command_id 0 0 c.frame_type c.timestamp false c.channel c.speed c.region c.rssi =
      sym (λ j. core 2 (i j) 0 0 c.frame_type c.timestamp false c.channel c.speed c.region c.rssi) in
      (subst Reached same (header u), (framed_is c u).1))

  length_to : c.state ≡ 2 → (headed c && unfilled c) ≡ true → Reached c
  length_to s q =
      let u = unfilled_is c (right (headed c) (unfilled c) q) in let r = heads (left (headed c) (unfilled c) q) in
      let same : core 2 c.command_id 0 0 c.frame_type c.timestamp false c.channel c.speed c.region c.rssi ≡ c =
      sym (λ j. core (s j) c.command_id (u.0 j) (u.1 j) c.frame_type c.timestamp (r.1 j) c.channel c.speed c.region c.rssi) in
      subst Reached same r.0

  payload_to : c.state ≡ 3 → (headed c && ltb c.count c.length) ≡ true → Reached c
  payload_to s q =
      let hd = left (headed c) (ltb c.count c.length) q in let r = heads hd in
      let lt = ltb-true c.count c.length (right (headed c) (ltb c.count c.length) q) in
      let ok : headed (core 2 c.command_id 0 0 c.frame_type c.timestamp false c.channel c.speed c.region c.rssi) ≡ true = rw r.1 at hd in
      let same : core 3 c.command_id c.length c.count c.frame_type c.timestamp false c.channel c.speed c.region c.rssi ≡ c =
      sym (λ j. core (s j) c.command_id c.length c.count c.frame_type c.timestamp (r.1 j) c.channel c.speed c.region c.rssi) in
      subst Reached same (to_3 c.command_id c.frame_type c.timestamp c.channel c.speed c.region c.rssi ok c.length r.0 in_type.length c.count lt)

  type_to : c.state ≡ 5 → (eqb c.command_id 0 && ((typed c && no_channel c) && unfilled c)) ≡ true → Reached c
  type_to s q =
      let rest = right (eqb c.command_id 0) ((typed c && no_channel c) && unfilled c) q in
      let i = eqb-true c.command_id 0 (left (eqb c.command_id 0) ((typed c && no_channel c) && unfilled c) q) in
      let u = unfilled_is c (right (typed c && no_channel c) (unfilled c) rest) in let tc = left (typed c && no_channel c) (unfilled c) rest in
      let z = no_channel_is c (right (typed c) (no_channel c) tc) in let ty = left (typed c) (no_channel c) tc in
      let t = left (type_ok c.frame_type) ((c.timestamp_state && eqb (c.timestamp % 256) 0) || (not c.timestamp_state && eqb c.timestamp 0)) ty in
      let w = right (type_ok c.frame_type) ((c.timestamp_state && eqb (c.timestamp % 256) 0) || (not c.timestamp_state && eqb c.timestamp 0)) ty in
      let fits = in_type.timestamp in
      either c.timestamp_state
      (λ yes'.
      let m' : eqb (c.timestamp % 256) 0 ≡ true = simp or-false at (rw yes' at w) in let m = eqb-true (c.timestamp % 256) 0 m' in
      let back : c.timestamp ≡ c.timestamp / 256 * 256 = omega (arith, m) in
      let same : core 5 0 0 0 c.frame_type (c.timestamp / 256 * 256) true 0 0 0 0 ≡ c =
      sym (λ j. core (s j) (i j) (u.0 j) (u.1 j) c.frame_type (back j) (yes' j) (z.0 j) (z.1 j) (z.2 j) (z.3 j)) in
      subst Reached same (to_5h c.frame_type t in_type.type (c.timestamp / 256) (omega arith)))
      (λ no'.
      let m' : eqb c.timestamp 0 ≡ true = rw no' at w in let m = eqb-true c.timestamp 0 m' in
      let same : core 5 0 0 0 c.frame_type 0 false 0 0 0 0 ≡ c =
      sym (λ j. core (s j) (i j) (u.0 j) (u.1 j) c.frame_type (m j) (no' j) (z.0 j) (z.1 j) (z.2 j) (z.3 j)) in
      subst Reached same (to_5 c.frame_type t in_type.type))

  time_to : c.state ≡ 6 → (eqb c.command_id 0 && ((timed c && no_channel c) && unfilled c)) ≡ true → Reached c
  time_to s q =
      let rest = right (eqb c.command_id 0) ((timed c && no_channel c) && unfilled c) q in
      let i = eqb-true c.command_id 0 (left (eqb c.command_id 0) ((timed c && no_channel c) && unfilled c) q) in
      let u = unfilled_is c (right (timed c && no_channel c) (unfilled c) rest) in let tc = left (timed c && no_channel c) (unfilled c) rest in
      let z = no_channel_is c (right (timed c) (no_channel c) tc) in let t = timed_is c (left (timed c) (no_channel c) tc) in
      let same : core 6 0 0 0 c.frame_type c.timestamp false 0 0 0 0 ≡ c =
      sym (λ j. core (s j) (i j) (u.0 j) (u.1 j) c.frame_type c.timestamp (t.1 j) (z.0 j) (z.1 j) (z.2 j) (z.3 j)) in
      subst Reached same (to_6 c.frame_type t.0 in_type.type c.timestamp in_type.timestamp)

  place_to : c.state ≡ 7 → (eqb c.command_id 0 && ((placed c && no_region c) && unfilled c)) ≡ true → Reached c
  place_to s q =
      let rest = right (eqb c.command_id 0) ((placed c && no_region c) && unfilled c) q in
      let i = eqb-true c.command_id 0 (left (eqb c.command_id 0) ((placed c && no_region c) && unfilled c) q) in
      let u = unfilled_is c (right (placed c && no_region c) (unfilled c) rest) in let pr = left (placed c && no_region c) (unfilled c) rest in
      let z = no_region_is c (right (placed c) (no_region c) pr) in let t = placed_is c (left (placed c) (no_region c) pr) in
      let same : core 7 0 0 0 c.frame_type c.timestamp false c.channel c.speed 0 0 ≡ c =
      sym (λ j. core (s j) (i j) (u.0 j) (u.1 j) c.frame_type c.timestamp (t.1 j) c.channel c.speed (z.0 j) (z.1 j)) in
      subst Reached same (to_7 c.frame_type t.0 in_type.type c.timestamp in_type.timestamp c.channel c.speed t.2 t.3)

  region_to : c.state ≡ 8 → (eqb c.command_id 0 && ((framed c && eqb c.rssi 0) && unfilled c)) ≡ true → Reached c
  region_to s q =
      let rest = right (eqb c.command_id 0) ((framed c && eqb c.rssi 0) && unfilled c) q in
      let i = eqb-true c.command_id 0 (left (eqb c.command_id 0) ((framed c && eqb c.rssi 0) && unfilled c) q) in
      let u = unfilled_is c (right (framed c && eqb c.rssi 0) (unfilled c) rest) in let fr = left (framed c && eqb c.rssi 0) (unfilled c) rest in
      let z = eqb-true c.rssi 0 (right (framed c) (eqb c.rssi 0) fr) in let f = framed_is c (left (framed c) (eqb c.rssi 0) fr) in
      let same : core 8 0 0 0 c.frame_type c.timestamp false c.channel c.speed c.region 0 ≡ c =
      sym (λ j. core (s j) (i j) (u.0 j) (u.1 j) c.frame_type c.timestamp (f.1 j) c.channel c.speed c.region (z j)) in
      subst Reached same (to_8 c.frame_type f.0 in_type.type c.timestamp in_type.timestamp c.channel c.speed f.2 f.3 c.region f.4 in_type.region)

  data_to : (s : ℕ) → ((t : ℕ) → type_ok t ≡ true → t < 256 → (w : ℕ) → w < 65536 → (ch sp : ℕ) → ltb ch 8 ≡ true → ltb sp 32 ≡ true → (g : ℕ) → region_ok g ≡ true → g < 256 → (r : ℕ) → r < 256 → Reached (core s 0 0 0 t w false ch sp g r))
      → c.state ≡ s → (eqb c.command_id 0 && (framed c && unfilled c)) ≡ true → Reached c
  data_to s to e q =
      let f = framed_is c (left (framed c) (unfilled c) (right (eqb c.command_id 0) (framed c && unfilled c) q)) in
      framed_to s (to c.frame_type f.0 in_type.type c.timestamp in_type.timestamp c.channel c.speed f.2 f.3 c.region f.4 in_type.region c.rssi in_type.rssi) e q

  -- every parser of the type that passes the test
  pub reached : reachable_of c ≡ true → Reached c
  reached h =
      either (eqb c.state 0) (λ e. quiet_to 0 fresh_core_lem (eqb-true _ _ e) (at_0 c h 0 (omega arith) (eqb-true _ _ e))) (λ e0.
      either (eqb c.state 1) (λ e. quiet_to 1 to_1 (eqb-true _ _ e) (at_1 c h 0 (omega arith) (eqb-true _ _ e))) (λ e1.
      either (eqb c.state 2) (λ e. length_to (eqb-true _ _ e) (at_2 c h 0 (omega arith) (eqb-true _ _ e))) (λ e2.
      either (eqb c.state 3) (λ e. payload_to (eqb-true _ _ e) (at_3 c h 0 (omega arith) (eqb-true _ _ e))) (λ e3.
      either (eqb c.state 4) (λ e. quiet_to 4 to_4 (eqb-true _ _ e) (at_4 c h 0 (omega arith) (eqb-true _ _ e))) (λ e4.
      either (eqb c.state 5) (λ e. type_to (eqb-true _ _ e) (at_5 c h 0 (omega arith) (eqb-true _ _ e))) (λ e5.
      either (eqb c.state 6) (λ e. time_to (eqb-true _ _ e) (at_6 c h 0 (omega arith) (eqb-true _ _ e))) (λ e6.
      either (eqb c.state 7) (λ e. place_to (eqb-true _ _ e) (at_7 c h 0 (omega arith) (eqb-true _ _ e))) (λ e7.
      either (eqb c.state 8) (λ e. region_to (eqb-true _ _ e) (at_8 c h 0 (omega arith) (eqb-true _ _ e))) (λ e8.
      either (eqb c.state 9) (λ e. data_to 9 to_9 (eqb-true _ _ e) (at_9 c h 0 (omega arith) (eqb-true _ _ e))) (λ e9.
      either (eqb c.state 10) (λ e. data_to 10 to_10 (eqb-true _ _ e) (at_10 c h 0 (omega arith) (eqb-true _ _ e))) (λ e10.
      let no' : false ≡ true = rw (e0, e1, e4, e2, e5, e6, e7, e8, e9, e10, e3) at h in absurd (eqb-false 0 0 (sym no') refl))))))))))))

-- the two ways together
pub reachable_iff : (c : Core) → InType c → (reachable_of c ≡ true) ↔ Reached c
reachable_iff c in_type = (reached c in_type, passes)
