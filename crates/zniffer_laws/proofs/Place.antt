-- From a fresh parser, the payload that a command or a frame hands out is the part of the bytes that ends where the run ends: so its place and its length, which the numbers alone give, are enough to find it. Assumes nothing.
use Prim.Native.Nat.{ℕ, suc, ◌<◌, ◌+◌, ◌-◌}
use lib.Dec.{ltb, eqb}
use lib.ListN.{length, set, get_or, take, drop, length-set, length-drop}
use lib.Seq.{take-suc, take-suc-set, get_or-drop, drop-cons}
use mathlib.Core.Bool.{true, false, ◌&&◌}
use mathlib.Core.List.{List, [], ◌∷◌}
use mathlib.Core.Path.{◌≡◌, refl, sym, subst, ap, ◌∙◌}
use native.Mathlib.Omega.{arith}
use native.Mathlib.Numerals.{add-one}
use borrow.Author.Tests.{lt-ltb, eqb-true, eqb-false}
use Rattle.zniffer_numbers.specs.declared.Core.{Core}
use Rattle.zniffer_numbers.specs.declared.CoreStep.{CoreStep}
use Rattle.zniffer_numbers.specs.declared.ParserResult.{ParserResult}
use Rattle.zniffer_numbers.specs.declared.ParserResult.TheVariants.{ValidCommand, ValidFrame, IncompleteFrame, InvalidFrame}
use Rattle.zniffer_tests.specs.Tests.{command_ok, type_ok, region_ok, reachable_of}
use Rattle.zniffer_numbers.specs.Numbers.{goes_on}
use Rattle.zniffer_states.specs.Step.{take_of}
use Rattle.zniffer_core.specs.Run.{core_step_of}
use Rattle.zniffer_laws.specs.Statements.{length_of}
use Rattle.zniffer_states.proofs.Laws.{both, by_state, room}
use Rattle.choice.proofs.Choice.{either}
use Rattle.zniffer_core.proofs.RunLaws.{taken}
use Rattle.zniffer_core.proofs.Kept.{kept}
use Rattle.zniffer.specs.declared.parser.Parser.{Parser}
use Rattle.zniffer.specs.declared.parser.Answer.{Answer}
use Rattle.zniffer.specs.Parse.{core_of, parser_of, fresh_parser, with_byte, settle, step_of, waiting, run_from}
use Rattle.zniffer.specs.Held.{held_by}
use Rattle.zniffer.proofs.Agree.{step_result, next_of}
use Rattle.zniffer.proofs.Filled.{so_far, none_held, one_held}
use Rattle.zniffer_laws.proofs.ReachParser.{take_none, picked_long, zeros_long}

never : {X : Type 0} → true ≡ false → X
never e = absurd (eqb-false 0 0 e refl)

-- where no more is wanted, the bytes are those that the result hands out
handed_out : (c : Core) (r : ParserResult) → goes_on r ≡ false → held_by c r ≡ length_of r
handed_out c IncompleteFrame e = never e
handed_out c InvalidFrame e = refl
handed_out c (ValidCommand i n) e = refl
handed_out c (ValidFrame w k v g r n) e = refl

-- the length that is awaited fits a byte
module _ (c : Core) (b : ℕ) (l : c.length < 256) (fits : b < 256) where
  abbrev Small : CoreStep → Type 0
  Small s = s.core.length < 256

  no_length : 0 < 256
  no_length = omega arith

  small_taken : Small (take_of c b)
  small_taken =
      by_state Small c b
      (λ _. both Small (eqb b 0x23) l (both Small (eqb b 0x21) l l))
      (λ _. both Small (command_ok b) l no_length)
      (λ _. both Small (eqb b 0) no_length fits)
      (λ _. both Small (eqb (c.count + 1) c.length) no_length l)
      (λ _. both Small (type_ok b) l no_length)
      (λ _. both Small c.timestamp_state l l)
      (λ _. l)
      (λ _. both Small (region_ok b) l no_length)
      (λ _. l)
      (λ _. both Small (eqb b 0x21) l no_length)
      (λ _. both Small (eqb b 0x03) l no_length)
      no_length

-- what a parser holds after i bytes of s: the count's last bytes
pub record Holds (s : List ℕ) (i : ℕ) (p : Parser) : Type 0 where
  pub passes : reachable_of (core_of p) ≡ true
  pub size : p.length < 256
  pub long : length p.payload ≡ 255
  pub from : ℕ
  pub place : i ≡ from + p.count
  pub bytes : take p.count p.payload ≡ take p.count (drop from s)

-- where a result's payload stands
pub record Stands (s : List ℕ) (a : Answer) (used : ℕ) : Type 0 where
  pub from : ℕ
  pub place : used ≡ from + length_of a.result
  pub bytes : take (length_of a.result) a.payload ≡ take (length_of a.result) (drop from s)

settled_stands : (s : List ℕ) (c : Core) (l : List ℕ) (r : ParserResult) (used : ℕ) → Stands s (record { result = r; payload = l }) used → Stands s (settle c l r).answer used
settled_stands s c l IncompleteFrame used a = record { from = a.from; place = a.place; bytes = refl }
settled_stands s c l InvalidFrame used a = record { from = a.from; place = a.place; bytes = refl }
settled_stands s c l (ValidCommand i n) used a = a
settled_stands s c l (ValidFrame w k v g r n) used a = a

-- what is left of a list, one element on
module _ (s : List ℕ) (k b : ℕ) (bs : List ℕ) (e : drop k s ≡ b ∷ bs) where
  shorter : k < length s
  shorter = let h : length s - k ≡ suc (length bs) = sym (length-drop k s) ∙ ap length e in omega (arith, h)

  halves : b ∷ bs ≡ get_or s k 0 ∷ drop (suc k) s
  halves = sym e ∙ drop-cons s k 0 shorter

  head_is : get_or s k 0 ≡ b
  head_is = let h = halves in cc

  tail_is : drop (k + 1) s ≡ bs
  tail_is = let h = halves in rw (add-one k) (cc)

-- one byte more of a payload
one_more_lem : (s l : List ℕ) (k n : ℕ) → k + n < length s → n < length l → take n l ≡ take n (drop k s) → take (n + 1) (set l n (get_or s (k + n) 0)) ≡ take (n + 1) (drop k s)
one_more_lem s l k n in-s in_l e =
    let within : n < length (drop k s) = rw (length-drop k s) (omega arith) in
    rw (add-one n, take-suc-set l n (get_or s (k + n) 0) in_l, e, ← get_or-drop k s n 0) (sym (take-suc (drop k s) n 0 within))

module _ (s : List ℕ) (i : ℕ) (p : Parser) (in-s : i < length s) (fits : get_or s i 0 < 256) (hold : Holds s i p) where
  abbrev b : ℕ
  b = get_or s i 0

  abbrev c : Core
  c = core_of p

  -- the payload with the byte, where the byte is one of it
  filled : c.state ≡ 3 → take (c.count + 1) (with_byte c p.payload b) ≡ take (c.count + 1) (drop hold.from s)
  filled st =
      let lt = room c hold.passes st in
      let in_l : c.count < length p.payload = omega (arith, lt, hold.size, hold.long) in
      let at : i ≡ hold.from + c.count = hold.place in
      let in_s' : hold.from + c.count < length s = rw (← at) in-s in
      let put : with_byte c p.payload b ≡ set p.payload c.count (get_or s (hold.from + c.count) 0) = rw (st, lt-ltb c.count c.length lt) (rw (← at)) in
      rw put (one_more_lem s p.payload hold.from c.count in_s' in_l hold.bytes)

  abbrev t : CoreStep
  t = core_step_of c b

  holds_core : goes_on t.result ≡ true → Holds s (i + 1) (parser_of t.core (with_byte c p.payload b))
  holds_core g =
      let long' = picked_long (eqb c.state 3 && ltb c.count c.length) (set p.payload c.count b) p.payload (simp length-set hold.long) hold.long in
      let size' : t.core.length < 256 = rw (taken c b hold.passes) at (small_taken c b hold.size fits) in
      either (eqb c.state 3)
      (λ yes'.
      let st = eqb-true c.state 3 yes' in let n = sym (so_far t.core t.result g) ∙ one_held c b hold.passes st in
      record { passes = kept c b fits; size = size'; long = long'; from = hold.from; place = omega (arith, n, hold.place); bytes = subst (λ (m : ℕ). take m (with_byte c p.payload b) ≡ take m (drop hold.from s)) (sym n) (filled st) })
      (λ other.
      let n = sym (so_far t.core t.result g) ∙ (none_held c b hold.passes other).1 in
      record { passes = kept c b fits; size = size'; long = long'; from = i + 1; place = omega (arith, n); bytes = take_none t.core.count (with_byte c p.payload b) (drop (i + 1) s) n })

  pub holds_on : goes_on (step_of p b).answer.result ≡ true → Holds s (i + 1) (step_of p b).parser
  holds_on g =
      let g' : goes_on t.result ≡ true = rw (step_result p b) at g in
      subst (Holds s (i + 1)) (sym (next_of c p.payload b t (with_byte c p.payload b) refl refl g')) (holds_core g')

  stands_core : goes_on t.result ≡ false → Stands s (record { result = t.result; payload = with_byte c p.payload b }) (i + 1)
  stands_core g =
      either (eqb c.state 3)
      (λ yes'.
      let st = eqb-true c.state 3 yes' in let n = sym (handed_out t.core t.result g) ∙ one_held c b hold.passes st in
      record { from = hold.from; place = omega (arith, n, hold.place); bytes = subst (λ (m : ℕ). take m (with_byte c p.payload b) ≡ take m (drop hold.from s)) (sym n) (filled st) })
      (λ other.
      let n = sym (handed_out t.core t.result g) ∙ (none_held c b hold.passes other).1 in
      record { from = i + 1; place = omega (arith, n); bytes = take_none (length_of t.result) (with_byte c p.payload b) (drop (i + 1) s) n })

  pub stands : goes_on (step_of p b).answer.result ≡ false → Stands s (step_of p b).answer (i + 1)
  unfolding step_of
  stands g = settled_stands s t.core (with_byte c p.payload b) t.result (i + 1) (stands_core (rw (step_result p b) at g))

-- the whole run, from k bytes used on, over what is left of s
module _ (s : List ℕ) (each : (k : ℕ) → get_or s k 0 < 256) where
  nothing_stands : (used : ℕ) → Stands s waiting used
  nothing_stands used = record { from = used; place = omega arith; bytes = refl }

  run_stands : (bs : List ℕ) (k : ℕ) (p : Parser) → drop k s ≡ bs → Holds s k p → Stands s (run_from k bs p).out.answer (run_from k bs p).out.used
  unfolding run_from
  run_stands [] k p e hold = nothing_stands k
  run_stands (b ∷ bs) k p e hold =
      let in-s = shorter s k b bs e in let first = head_is s k b bs e in
      either (goes_on (step_of p b).answer.result)
      (λ yes'. rw yes' (run_stands bs (k + 1) (step_of p b).parser (tail_is s k b bs e) (subst (λ (x : ℕ). Holds s (k + 1) (step_of p x).parser) first (holds_on s k p in-s (each k) hold (rw first yes')))))
      (λ no'. rw no' (subst (λ (x : ℕ). Stands s (step_of p x).answer (k + 1)) first (stands s k p in-s (each k) hold (rw first no'))))

  pub payload_stands : Stands s (run_from 0 s fresh_parser).out.answer (run_from 0 s fresh_parser).out.used
  payload_stands = run_stands s 0 fresh_parser refl (record { passes = refl; size = omega arith; long = zeros_long; from = 0; place = refl; bytes = refl })
