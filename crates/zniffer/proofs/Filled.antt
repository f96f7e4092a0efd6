-- A run of the parser with its payload, from the run of its numbers alone: the payload's bytes are the last of those used. Assumes nothing.
use Prim.Native.Nat.{ℕ, zero, suc, ◌+◌, ◌-◌, ◌≤◌, ◌<◌, min}
use borrow.Author.Tests.{lt-ltb, eqb-true, eqb-false}
use lib.Dec.{eqb}
use lib.ListN.{length, set, get_or, take, drop, length-drop, drop_of_length-le}
use lib.Seq.{sets, sets-eq, get_or-drop, drop-drop, length-take-le}
use borrow.Rule.Slice.PartMut.{put_mid}
use Rattle.std.proofs.Common.{append_assoc}
use mathlib.Core.Bool.{true, false, and-false, or-false}
use mathlib.Core.List.{List, [], ◌∷◌}
use mathlib.Core.Path.{◌≡◌, refl, sym, ap, ◌∙◌}
use native.Mathlib.Omega.{arith}
use Rattle.choice.proofs.Choice.{right_true as right, either}
use Rattle.choice.proofs.Laid.{lay_turn}
use Rattle.zniffer_numbers.specs.declared.Core.{Core}
use Rattle.zniffer_numbers.specs.declared.CoreStep.{CoreStep}
use Rattle.zniffer_numbers.specs.declared.ParserResult.{ParserResult}
use Rattle.zniffer_numbers.specs.declared.ParserResult.TheVariants.{ValidCommand, ValidFrame, IncompleteFrame, InvalidFrame}
use Rattle.zniffer_numbers.specs.Numbers.{fresh_core, goes_on}
use Rattle.zniffer_tests.specs.Tests.{command_ok, type_ok, region_ok, unfilled, reachable_of}
use Rattle.zniffer_states.specs.Step.{whole, payload_byte, take_of}
use Rattle.zniffer_states.proofs.Laws.{both, by_state, room}
use Rattle.zniffer_core.specs.declared.CoreRan.{CoreRan}
use Rattle.zniffer_core.specs.Run.{core_step_of, core_run_from}
use Rattle.zniffer_core.proofs.RunLaws.{taken, next_byte, refuses}
use Rattle.zniffer_core.proofs.Kept.{kept}
use Rattle.zniffer.specs.declared.parser.Ran.{Ran}
use Rattle.zniffer.specs.Parse.{parser_of, with_byte, settle, step_of, run_from}
use Rattle.zniffer.specs.Held.{held_by}
use Rattle.zniffer.proofs.Agree.{step_of_lem, result_of, next_of}
use Rattle.zniffer.proofs.ParserLaws.{step_refused}

-- a parser that waits for no payload has none
pub none_yet : (c : Core) → reachable_of c ≡ true → eqb c.state 3 ≡ false → unfilled c ≡ true
none_yet c h e = either (unfilled c) (λ yes'. yes') (λ no'. let z : false ≡ true = simp (no', e, and-false, or-false) at h in absurd (eqb-false 0 0 (sym z) refl))

-- how many bytes of a payload there are after a byte
abbrev pub held_after : CoreStep → ℕ
held_after t = held_by t.core t.result

-- none after a byte that is none of a payload's
module _ (c : Core) (b : ℕ) (z : c.count ≡ 0) (other : eqb c.state 3 ≡ false) where
  abbrev None : CoreStep → Type 0
  None t = held_after t ≡ 0

  none_taken : None (take_of c b)
  none_taken =
      by_state None c b
      (λ _. both None (eqb b 0x23) z (both None (eqb b 0x21) z z))
      (λ _. both None (command_ok b) z refl)
      (λ _. both None (eqb b 0) refl refl)
      (λ e. absurd (eqb-false c.state 3 other e))
      (λ _. both None (type_ok b) z refl)
      (λ _. both None c.timestamp_state z z)
      (λ _. z)
      (λ _. both None (region_ok b) z refl)
      (λ _. z)
      (λ _. both None (eqb b 0x21) z refl)
      (λ _. both None (eqb b 0x03) z refl)
      refl

-- one more after a byte of a payload
module _ (c : Core) (b : ℕ) (h : reachable_of c ≡ true) (s : c.state ≡ 3) where
  is_payload : core_step_of c b ≡ payload_byte c
  unfolding core_step_of
  is_payload = rw (h, s)

  said : (d : Core) → held_by d (whole c) ≡ c.length
  said d = both (λ (r : ParserResult). held_by d r ≡ c.length) (type_ok c.frame_type) refl refl

  pub one_held : held_after (core_step_of c b) ≡ c.count + 1
  one_held =
      rw is_payload (either (eqb (c.count + 1) c.length) (λ e. rw e (said fresh_core ∙ sym (eqb-true (c.count + 1) c.length e))) (λ e. rw e refl))

pub none_held : (c : Core) (b : ℕ) → reachable_of c ≡ true → eqb c.state 3 ≡ false → (c.count ≡ 0) × (held_after (core_step_of c b) ≡ 0)
none_held c b h other =
    let z = eqb-true c.count 0 (right (eqb c.length 0) (eqb c.count 0) (none_yet c h other)) in
    (z, rw (taken c b h) at (none_taken c b z other))

-- a payload of which there are h bytes, after i bytes of s: the last of these, and before them what was there
abbrev pub piece : List ℕ → List ℕ → ℕ → ℕ → List ℕ
piece s l h i = sets l (h - min h i) (take (min h i) (drop (i - min h i) s))

pub piece_none : (s l : List ℕ) (h i : ℕ) → min h i ≡ 0 → piece s l h i ≡ l
piece_none s l h i z = rw z

one_more_lem : (s l : List ℕ) (h i n : ℕ) → n ≤ h → n ≤ i → i < length s → sets l (h - n) (take (n + 1) (drop (i - n) s)) ≡ set (sets l (h - n) (take n (drop (i - n) s))) h (get_or s i 0)
one_more_lem s l h i n p q in-s =
    let from = drop (i - n) s in
    let at : h - n + n ≡ h = omega (arith, p) in
    let here : i - n + n ≡ i = omega (arith, q) in
    let there : n < length from = rw (length-drop (i - n) s) (omega (arith, q, in-s)) in
    let byte : get_or from n 0 ≡ get_or s i 0 = get_or-drop (i - n) s n 0 ∙ ap (λ (k : ℕ). get_or s k 0) here in
    sym (lay_turn from l (h - n) n there) ∙ (λ j. set (sets l (h - n) (take n from)) (at j) (byte j))

piece_more : (s l : List ℕ) (h i : ℕ) → i < length s → piece s l (h + 1) (i + 1) ≡ set (piece s l h i) h (get_or s i 0)
piece_more s l h i in-s =
    let n = min h i in
    let m : min (h + 1) (i + 1) ≡ n + 1 = omega arith in
    let a : h + 1 - min (h + 1) (i + 1) ≡ h - n = omega (arith, m) in
    let b : i + 1 - min (h + 1) (i + 1) ≡ i - n = omega (arith, m) in
    (λ j. sets l (a j) (take (m j) (drop (b j) s))) ∙ one_more_lem s l h i n (omega arith) (omega arith) in-s

-- a byte puts the payload so far on
put_on : (s l l₀ : List ℕ) (i : ℕ) (c : Core) → reachable_of c ≡ true → i < length s → l ≡ piece s l₀ c.count i
    → with_byte c l (get_or s i 0) ≡ piece s l₀ (held_after (core_step_of c (get_or s i 0))) (i + 1)
put_on s l l₀ i c h in-s e =
    let b = get_or s i 0 in
    either (eqb c.state 3)
    (λ yes'.
    let st = eqb-true c.state 3 yes' in
    let put : with_byte c l b ≡ set l c.count b = rw (yes', lt-ltb c.count c.length (room c h st)) in
    rw (put, one_held c b h st, e) (sym (piece_more s l₀ c.count i in-s)))
    (λ no'.
    let n = none_held c b h no' in
    let left : with_byte c l b ≡ l = rw no' in
    left ∙ e ∙ piece_none s l₀ c.count i (omega (arith, n.0)) ∙ sym (piece_none s l₀ (held_after (core_step_of c b)) (i + 1) (omega (arith, n.1))))

-- a run of the numbers and the payload after it, put together
abbrev pub ran_of : CoreRan → List ℕ → Ran
ran_of t l = record { parser = (settle t.core l t.result).parser; out = record { answer = (settle t.core l t.result).answer; used = t.used } }

-- the payload after a run of the numbers over s
abbrev pub left_by : List ℕ → List ℕ → CoreRan → List ℕ
left_by s l₀ t = piece s l₀ (held_by t.core t.result) t.used

-- where more is wanted, the bytes are those so far
pub so_far : (c : Core) (r : ParserResult) → goes_on r ≡ true → held_by c r ≡ c.count
so_far c IncompleteFrame e = refl
so_far c InvalidFrame e = let z : false ≡ true = e in cc
so_far c (ValidCommand i n) e = let z : false ≡ true = e in cc
so_far c (ValidFrame w k v g r n) e = let z : false ≡ true = e in cc

-- from numbers that pass the test, after i bytes of s
module _ (s l₀ : List ℕ) (bytes : (k : ℕ) → get_or s k 0 < 256) where
  -- a byte that wants more, and one that ends the run
  on_more : (i : ℕ) (c : Core) (l : List ℕ) → reachable_of c ≡ true → i < length s → l ≡ piece s l₀ c.count i → goes_on (core_step_of c (get_or s i 0)).result ≡ true
      → ((d : Core) (m : List ℕ) → reachable_of d ≡ true → m ≡ piece s l₀ d.count (i + 1) → run_from (i + 1) (drop (i + 1) s) (parser_of d m) ≡ ran_of (core_run_from (i + 1) (drop (i + 1) s) d) (left_by s l₀ (core_run_from (i + 1) (drop (i + 1) s) d)))
      → run_from i (drop i s) (parser_of c l) ≡ ran_of (core_run_from i (drop i s) c) (left_by s l₀ (core_run_from i (drop i s) c))
  unfolding run_from core_run_from
  on_more i c l h in-s e g rest =
      let b = get_or s i 0 in let t = core_step_of c b in let m = with_byte c l b in
      let said : goes_on (step_of (parser_of c l) b).answer.result ≡ true = rw (← result_of c l b t m refl refl) g in
      rw (next_byte s i in-s) (rw (said, g, next_of c l b t m refl refl g) (rest t.core m (kept c b (bytes i)) (put_on s l l₀ i c h in-s e ∙ ap (λ n. piece s l₀ n (i + 1)) (so_far t.core t.result g))))

  on_last : (i : ℕ) (c : Core) (l : List ℕ) → reachable_of c ≡ true → i < length s → l ≡ piece s l₀ c.count i → goes_on (core_step_of c (get_or s i 0)).result ≡ false
      → run_from i (drop i s) (parser_of c l) ≡ ran_of (core_run_from i (drop i s) c) (left_by s l₀ (core_run_from i (drop i s) c))
  unfolding run_from core_run_from
  on_last i c l h in-s e g =
      let b = get_or s i 0 in let t = core_step_of c b in let m = with_byte c l b in
      let said : goes_on (step_of (parser_of c l) b).answer.result ≡ false = rw (← result_of c l b t m refl refl) g in
      rw (next_byte s i in-s) (rw (said, g, ← step_of_lem c l b t m refl refl) (ap (ran_of (record { core = t.core; result = t.result; used = i + 1 })) (put_on s l l₀ i c h in-s e)))

  at_end : (i : ℕ) (c : Core) (l : List ℕ) → length s ≡ i → l ≡ piece s l₀ c.count i → run_from i (drop i s) (parser_of c l) ≡ ran_of (core_run_from i (drop i s) c) (left_by s l₀ (core_run_from i (drop i s) c))
  unfolding run_from core_run_from
  at_end i c l z e = rw (drop_of_length-le s {i = i} (omega (arith, z))) (ap (ran_of (record { core = c; result = IncompleteFrame; used = i })) e)

  -- n bytes are left
  goes : (n i : ℕ) (c : Core) (l : List ℕ) → i + n ≡ length s → reachable_of c ≡ true → l ≡ piece s l₀ c.count i → run_from i (drop i s) (parser_of c l) ≡ ran_of (core_run_from i (drop i s) c) (left_by s l₀ (core_run_from i (drop i s) c))
  goes zero i c l z h e = at_end i c l (omega (arith, z)) e
  goes (suc n) i c l z h e =
      let in-s : i < length s = omega (arith, z) in
      either (goes_on (core_step_of c (get_or s i 0)).result)
      (λ yes'. on_more i c l h in-s e yes' (λ d m k f. goes n (i + 1) d m (omega (arith, z)) k f))
      (λ no'. on_last i c l h in-s e no')

-- from numbers that fail it: nothing, or one bad byte
refused_parts : (s l : List ℕ) (c : Core) → reachable_of c ≡ false → run_from 0 s (parser_of c l) ≡ ran_of (core_run_from 0 s c) (left_by s l (core_run_from 0 s c))
unfolding run_from core_run_from
refused_parts [] l c h = ap (ran_of (record { core = c; result = IncompleteFrame; used = 0 })) (sym (piece_none [] l c.count 0 (omega arith)))
refused_parts (b ∷ bs) l c h = rw (step_refused (parser_of c l) b h, refuses c b h) refl

-- a run at any parser
pub run_parts : (s l : List ℕ) → ((k : ℕ) → get_or s k 0 < 256) → (c : Core) → run_from 0 s (parser_of c l) ≡ ran_of (core_run_from 0 s c) (left_by s l (core_run_from 0 s c))
run_parts s l bytes c =
    either (reachable_of c)
    (λ yes'. goes s l bytes (length s) 0 c l (omega arith) yes' (sym (piece_none s l c.count 0 (omega arith))))
    (λ no'. refused_parts s l c no')

-- what is written into a part is laid there
mid_sets : (a k : ℕ) (xs ys : List ℕ) → k ≡ length ys → a + length ys ≤ length xs → put_mid a k xs ys ≡ sets xs a ys
mid_sets a k xs ys e h = rw (e, drop-drop (length ys) a xs) (sym (append_assoc (take a xs) ys (drop (a + length ys) xs)) ∙ sym (sets-eq ys xs a h))

-- what the code lays
pub laid_by : (s l w : List ℕ) (t : CoreRan) (end n : ℕ) → end ≡ held_by t.core t.result → n ≡ min end t.used → end ≤ length l → t.used ≤ length s → w ≡ take (t.used - (t.used - n)) (drop (t.used - n) s)
    → put_mid (end - n) (end - (end - n)) l w ≡ left_by s l t
laid_by s l w t end n h q room in-s e =
    let few : t.used - (t.used - n) ≡ n = omega (arith, q) in let part : end - (end - n) ≡ n = omega (arith, q) in
    let last : w ≡ take n (drop (t.used - n) s) = rw few at e in
    let long : length w ≡ n = rw last (length-take-le n (drop (t.used - n) s) (rw (length-drop (t.used - n) s) (omega (arith, q, in-s)))) in
    mid_sets (end - n) (end - (end - n)) l w (part ∙ sym long) (omega (arith, long, q, room)) ∙ rw (last, q, h) refl
