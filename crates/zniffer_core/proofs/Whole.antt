-- A whole header, byte after byte from a fresh parser; a payload that is there to its last byte; and both, at the start of the bytes. Assumes nothing.
use Prim.Native.Nat.{ℕ, ◌+◌, ◌-◌, ◌*◌, ◌/◌, ◌%◌, ◌≤◌, ◌<◌}
use borrow.Author.Tests.{lt-ltb, eq-eqb, eqb-true, eqb-false, leb-true, not-true}
use lib.Dec.{leb, eqb}
use lib.ListN.{length, drop, get_or, length-drop}
use lib.Seq.{drop-drop}
use mathlib.Core.Bool.{true, false, not, ◌&&◌}
use mathlib.Core.List.{List}
use mathlib.Core.Path.{◌≡◌, refl, sym, ap, ◌∙◌}
use native.Mathlib.Omega.{arith}
use Rattle.choice.proofs.Choice.{left_true as left, right_true as right, by_choice}
use Rattle.zniffer_numbers.specs.declared.Core.{Core}
use Rattle.zniffer_numbers.specs.declared.ParserResult.TheVariants.{ValidCommand}
use Rattle.zniffer_numbers.specs.Numbers.{core, fresh_core, goes_on}
use Rattle.zniffer_tests.specs.Tests.{command_ok, type_ok, region_ok, reachable_of}
use Rattle.zniffer_states.specs.Step.{going, done, whole}
use Rattle.zniffer_starts.specs.Header.{no_head, command_heads, frame_heads, command_head, frame_head, head_of}
use Rattle.zniffer_starts.specs.declared.headers.Head.{Head}
use Rattle.zniffer_states.proofs.Laws.{both, in_state, room}
use Rattle.zniffer_core.specs.Run.{core_step_of, core_run_from}
use Rattle.zniffer_core.proofs.Kept.{whole_half, top, low}
use Rattle.zniffer_core.proofs.RunLaws.{taken, on, run_last}
use Rattle.zniffer_core.proofs.Skips.{later, skipped, still}

-- the three bytes of a command's header, each from the numbers that the last one left
command_step : core_step_of fresh_core 0x23 ≡ going (core 1 0 0 0 0 0 false 0 0 0 0)
unfolding core_step_of
command_step = refl

module _ (i : ℕ) (id_ok : command_ok i ≡ true) where
  id_step : core_step_of (core 1 0 0 0 0 0 false 0 0 0 0) i ≡ going (core 2 i 0 0 0 0 false 0 0 0 0)
  unfolding core_step_of
  id_step = rw id_ok

  size_step : (n : ℕ) → eqb n 0 ≡ false → core_step_of (core 2 i 0 0 0 0 false 0 0 0 0) n ≡ going (core 3 i n 0 0 0 false 0 0 0 0)
  unfolding core_step_of
  size_step n some = rw (id_ok, some)

  command_passes : (n : ℕ) → 0 < n → reachable_of (core 3 i n 0 0 0 false 0 0 0 0) ≡ true
  command_passes n some = rw (id_ok, lt-ltb 0 n some)

-- the ten of a frame's
frame_step : core_step_of fresh_core 0x21 ≡ going (core 4 0 0 0 0 0 false 0 0 0 0)
unfolding core_step_of
frame_step = refl

module _ (t : ℕ) (type_ok_lem : type_ok t ≡ true) where
  type_step : core_step_of (core 4 0 0 0 0 0 false 0 0 0 0) t ≡ going (core 5 0 0 0 t 0 false 0 0 0 0)
  unfolding core_step_of
  type_step = rw type_ok_lem

  high_step : (h : ℕ) → core_step_of (core 5 0 0 0 t 0 false 0 0 0 0) h ≡ going (core 5 0 0 0 t (h * 256) true 0 0 0 0)
  unfolding core_step_of
  high_step h = rw type_ok_lem

  low_step : (h l : ℕ) → core_step_of (core 5 0 0 0 t (h * 256) true 0 0 0 0) l ≡ going (core 6 0 0 0 t (h * 256 + l) false 0 0 0 0)
  unfolding core_step_of
  low_step h l = rw (type_ok_lem, whole_half h)

  place_step : (w p : ℕ) → core_step_of (core 6 0 0 0 t w false 0 0 0 0) p ≡ going (core 7 0 0 0 t w false (p / 32) (p % 32) 0 0)
  unfolding core_step_of
  place_step w p = rw type_ok_lem

  module _ (w p : ℕ) (p_fits : p < 256) (g : ℕ) (region_ok_lem : region_ok g ≡ true) where
    region_step : core_step_of (core 7 0 0 0 t w false (p / 32) (p % 32) 0 0) g ≡ going (core 8 0 0 0 t w false (p / 32) (p % 32) g 0)
    unfolding core_step_of
    region_step = rw (type_ok_lem, top p p_fits, low p, region_ok_lem)

    rssi_step : (r : ℕ) → core_step_of (core 8 0 0 0 t w false (p / 32) (p % 32) g 0) r ≡ going (core 9 0 0 0 t w false (p / 32) (p % 32) g r)
    unfolding core_step_of
    rssi_step r = rw (type_ok_lem, top p p_fits, low p, region_ok_lem)

    one_step : (r : ℕ) → core_step_of (core 9 0 0 0 t w false (p / 32) (p % 32) g r) 0x21 ≡ going (core 10 0 0 0 t w false (p / 32) (p % 32) g r)
    unfolding core_step_of
    one_step r = rw (type_ok_lem, top p p_fits, low p, region_ok_lem)

    two_step : (r : ℕ) → core_step_of (core 10 0 0 0 t w false (p / 32) (p % 32) g r) 0x03 ≡ going (core 2 0 0 0 t w false (p / 32) (p % 32) g r)
    unfolding core_step_of
    two_step r = rw (type_ok_lem, top p p_fits, low p, region_ok_lem)

    length_step : (r n : ℕ) → eqb n 0 ≡ false → core_step_of (core 2 0 0 0 t w false (p / 32) (p % 32) g r) n ≡ going (core 3 0 n 0 t w false (p / 32) (p % 32) g r)
    unfolding core_step_of
    length_step r n some = rw (type_ok_lem, top p p_fits, low p, region_ok_lem, some)

    frame_passes : (r n : ℕ) → 0 < n → reachable_of (core 3 0 n 0 t w false (p / 32) (p % 32) g r) ≡ true
    frame_passes r n some = rw (type_ok_lem, top p p_fits, low p, region_ok_lem, lt-ltb 0 n some)

-- what a header says of the bytes that it begins: a run from a fresh parser goes on after it
pub record Heads (s : List ℕ) (h : Head) : Type 0 where
  pub within : h.size ≤ length s
  pub small : h.size ≤ 10
  pub passes : reachable_of h.core ≡ true
  pub runs : core_run_from 0 s fresh_core ≡ core_run_from h.size (drop h.size s) h.core
  pub waits : (h.size ≡ 0 → ⊥) → (h.core.state ≡ 3) × (h.core.count ≡ 0)

some_bytes : (n : ℕ) → not (eqb n 0) ≡ true → (eqb n 0 ≡ false) × (0 < n)
some_bytes n e = let f = not-true (eqb n 0) e in let no' = eqb-false n 0 f in (f, omega (arith, no'))

module _ (s : List ℕ) (bytes : (k : ℕ) → get_or s k 0 < 256) where
  none_heads : Heads s no_head
  none_heads = record { within = omega arith; small = omega arith; passes = refl; runs = refl; waits = λ no'. absurd (no' refl) }

  -- the two bytes before a command's length
  pub two_run : 2 ≤ length s → get_or s 0 0 ≡ 0x23 → command_ok (get_or s 1 0) ≡ true → core_run_from 0 s fresh_core ≡ core_run_from 2 (drop 2 s) (core 2 (get_or s 1 0) 0 0 0 0 false 0 0 0 0)
  two_run long start id_ok =
      on s 0 1 _ _ refl (omega (arith, long)) (ap (core_step_of fresh_core) start ∙ command_step) ∙ on s 1 2 _ _ refl (omega (arith, long)) (id_step (get_or s 1 0) id_ok)

  command_heads_lem : (leb 3 (length s) && eqb (get_or s 0 0) 0x23) ≡ true → Heads s (command_head (get_or s 1 0) (get_or s 2 0))
  command_heads_lem t =
      let i = get_or s 1 0 in let n = get_or s 2 0 in
      let long = leb-true 3 (length s) (left (leb 3 (length s)) (eqb (get_or s 0 0) 0x23) t) in let start = eqb-true (get_or s 0 0) 0x23 (right (leb 3 (length s)) (eqb (get_or s 0 0) 0x23) t) in
      by_choice (Heads s) (command_heads i n)
      (λ ok.
      let id_ok = left (command_ok i) (not (eqb n 0)) ok in let some = some_bytes n (right (command_ok i) (not (eqb n 0)) ok) in
      record {
        within = long;
        small = omega arith;
        passes = command_passes i id_ok n some.1;
        runs = two_run (omega (arith, long)) start id_ok ∙ on s 2 3 _ _ refl (omega (arith, long)) (size_step i id_ok n some.0);
        waits = λ _. (refl, refl);
      })
      (λ _. none_heads)

  -- the nine bytes before a frame's length
  pub nine_run : 9 ≤ length s → get_or s 0 0 ≡ 0x21 → type_ok (get_or s 1 0) ≡ true → region_ok (get_or s 5 0) ≡ true → get_or s 7 0 ≡ 0x21 → get_or s 8 0 ≡ 0x03
      → core_run_from 0 s fresh_core ≡ core_run_from 9 (drop 9 s) (core 2 0 0 0 (get_or s 1 0) (get_or s 2 0 * 256 + get_or s 3 0) false (get_or s 4 0 / 32) (get_or s 4 0 % 32) (get_or s 5 0) (get_or s 6 0))
  nine_run long start type_ok_lem region_ok_lem one two =
      let t = get_or s 1 0 in let w = get_or s 2 0 * 256 + get_or s 3 0 in let p = get_or s 4 0 in let g = get_or s 5 0 in let r = get_or s 6 0 in
      on s 0 1 _ _ refl (omega (arith, long)) (ap (core_step_of fresh_core) start ∙ frame_step)
      ∙ on s 1 2 _ _ refl (omega (arith, long)) (type_step t type_ok_lem)
      ∙ on s 2 3 _ _ refl (omega (arith, long)) (high_step t type_ok_lem _)
      ∙ on s 3 4 _ _ refl (omega (arith, long)) (low_step t type_ok_lem _ _)
      ∙ on s 4 5 _ _ refl (omega (arith, long)) (place_step t type_ok_lem w p)
      ∙ on s 5 6 _ _ refl (omega (arith, long)) (region_step t type_ok_lem w p (bytes 4) g region_ok_lem)
      ∙ on s 6 7 _ _ refl (omega (arith, long)) (rssi_step t type_ok_lem w p (bytes 4) g region_ok_lem r)
      ∙ on s 7 8 _ _ refl (omega (arith, long)) (ap (core_step_of _) one ∙ one_step t type_ok_lem w p (bytes 4) g region_ok_lem r)
      ∙ on s 8 9 _ _ refl (omega (arith, long)) (ap (core_step_of _) two ∙ two_step t type_ok_lem w p (bytes 4) g region_ok_lem r)

  frame_heads_lem : (leb 10 (length s) && eqb (get_or s 0 0) 0x21) ≡ true
      → Heads s (frame_head (get_or s 1 0) (get_or s 2 0) (get_or s 3 0) (get_or s 4 0) (get_or s 5 0) (get_or s 6 0) (get_or s 7 0) (get_or s 8 0) (get_or s 9 0))
  frame_heads_lem z =
      let t = get_or s 1 0 in let w = get_or s 2 0 * 256 + get_or s 3 0 in let p = get_or s 4 0 in let g = get_or s 5 0 in let r = get_or s 6 0 in let a = get_or s 7 0 in let b = get_or s 8 0 in let n = get_or s 9 0 in
      let long = leb-true 10 (length s) (left (leb 10 (length s)) (eqb (get_or s 0 0) 0x21) z) in let start = eqb-true (get_or s 0 0) 0x21 (right (leb 10 (length s)) (eqb (get_or s 0 0) 0x21) z) in
      by_choice (Heads s) (frame_heads t g a b n)
      (λ ok.
      let type_ok_lem = left (type_ok t) (region_ok g && (eqb a 0x21 && (eqb b 0x03 && not (eqb n 0)))) ok in
      let on_region = right (type_ok t) (region_ok g && (eqb a 0x21 && (eqb b 0x03 && not (eqb n 0)))) ok in
      let region_ok_lem = left (region_ok g) (eqb a 0x21 && (eqb b 0x03 && not (eqb n 0))) on_region in
      let on_one = right (region_ok g) (eqb a 0x21 && (eqb b 0x03 && not (eqb n 0))) on_region in
      let one = eqb-true a 0x21 (left (eqb a 0x21) (eqb b 0x03 && not (eqb n 0)) on_one) in
      let on_two = right (eqb a 0x21) (eqb b 0x03 && not (eqb n 0)) on_one in
      let two = eqb-true b 0x03 (left (eqb b 0x03) (not (eqb n 0)) on_two) in
      let some = some_bytes n (right (eqb b 0x03) (not (eqb n 0)) on_two) in
      record {
        within = long;
        small = omega arith;
        passes = frame_passes t type_ok_lem w p (bytes 4) g region_ok_lem r n some.1;
        runs = nine_run (omega (arith, long)) start type_ok_lem region_ok_lem one two ∙ on s 9 10 _ _ refl (omega (arith, long)) (length_step t type_ok_lem w p (bytes 4) g region_ok_lem r n some.0);
        waits = λ _. (refl, refl);
      })
      (λ _. none_heads)

  pub heads : Heads s (head_of s)
  unfolding head_of
  heads =
      by_choice (Heads s) (leb 3 (length s) && eqb (get_or s 0 0) 0x23) command_heads_lem
      (λ _. by_choice (Heads s) (leb 10 (length s) && eqb (get_or s 0 0) 0x21) frame_heads_lem (λ _. none_heads))

-- a length of 0, which ends a command, or a frame's start
pub no_bytes : (c : Core) → reachable_of c ≡ true → c.state ≡ 2 → (s : List ℕ) (a : ℕ) → a < length s → get_or s a 0 ≡ 0 → core_run_from a (drop a s) c ≡ record { core = fresh_core; result = ValidCommand c.command_id 0; used = a + 1 }
no_bytes c h e s a in-s z =
    let b = get_or s a 0 in
    let step : core_step_of c b ≡ done (ValidCommand c.command_id 0) = sym (taken c b h) ∙ sym (in_state 2 c b e) ∙ rw z in
    let stops : goes_on (core_step_of c b).result ≡ false = rw step in
    rw step at (run_last s a c _ refl in-s stops)

-- a frame's header before its length passes the test
pub headed_passes : (t w p g r : ℕ) → p < 256 → type_ok t ≡ true → region_ok g ≡ true → reachable_of (core 2 0 0 0 t w false (p / 32) (p % 32) g r) ≡ true
headed_passes t w p g r p_fits type_ok_lem region_ok_lem = rw (type_ok_lem, top p p_fits, low p, region_ok_lem)

-- the numbers alone of a payload's last byte
last_byte : (c : Core) (b : ℕ) → reachable_of c ≡ true → c.state ≡ 3 → c.count + 1 ≡ c.length → core_step_of c b ≡ done (whole c)
last_byte c b h e z = sym (taken c b h) ∙ sym (in_state 3 c b e) ∙ simp (eq-eqb (c.count + 1) c.length z)

ends : (c : Core) → goes_on (whole c) ≡ false
ends c = both (λ r. goes_on r ≡ false) (type_ok c.frame_type) refl refl

-- a payload that is there to its last byte
pub whole_payload : (c : Core) → reachable_of c ≡ true → c.state ≡ 3 → (m : ℕ) → c.count + m ≡ c.length → (s : List ℕ) (a : ℕ) → a + m ≤ length s
    → core_run_from a (drop a s) c ≡ record { core = fresh_core; result = whole c; used = a + m }
whole_payload c h e m z s a long =
    let some = room c h e in let j = m - 1 in let i = a + j in let d = later c j in
    let short : c.count + j < c.length = omega (arith, z, some) in
    let there : j ≤ length (drop a s) = rw (length-drop a s) (omega (arith, long)) in
    let passed : core_run_from i (drop i s) d ≡ core_run_from a (drop a s) c = sym (skipped j c h e short a (drop a s) there ∙ ap (λ (x : List ℕ). core_run_from i x d) (drop-drop j a s)) in
    let last = last_byte d (get_or s i 0) (still j c h e short) e (omega (arith, z, some)) in
    let stops : goes_on (core_step_of d (get_or s i 0)).result ≡ false = rw last (ends c) in
    let far : i + 1 ≡ a + m = omega (arith, z, some) in
    rw (last, far) at (run_last s i d _ passed (omega (arith, long, z, some)) stops)

-- a command or a frame that lies whole at the start of the bytes
pub whole_at_start : (s : List ℕ) → ((k : ℕ) → get_or s k 0 < 256) → ((head_of s).size ≡ 0 → ⊥) → (n : ℕ) → n ≡ (head_of s).core.length → (head_of s).size + n ≤ length s
    → core_run_from 0 s fresh_core ≡ record { core = fresh_core; result = whole (head_of s).core; used = (head_of s).size + n }
whole_at_start s bytes some n e long =
    let h = heads s bytes in let w = h.waits some in
    h.runs ∙ whole_payload (head_of s).core h.passes w.0 n (omega (arith, e, w.1)) s (head_of s).size long
