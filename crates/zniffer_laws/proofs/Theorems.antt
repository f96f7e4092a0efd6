-- The laws of the parser, each with the sentence that it shows. Assumes nothing.
use Prim.Native.Nat.{ℕ, ◌<◌, ◌≤◌, ◌-◌}
use lib.ListN.{length, get_or, take, drop}
use mathlib.Core.Bool.{true, false}
use mathlib.Core.List.{List}
use mathlib.Core.Logic.{◌↔◌}
use mathlib.Core.Path.{◌≡◌, refl, sym, ap, subst, ◌∙◌}
use native.Mathlib.Omega.{arith}
use Rattle.zniffer_numbers.specs.declared.Core.{Core}
use Rattle.zniffer_numbers.specs.declared.ParserResult.{ParserResult}
use Rattle.zniffer_numbers.specs.declared.ParserResult.TheVariants.{ValidCommand, ValidFrame, IncompleteFrame, InvalidFrame}
use Rattle.zniffer.specs.declared.parser.Parser.{Parser}
use Rattle.zniffer_tests.specs.Tests.{type_ok, reachable_of}
use Rattle.zniffer_numbers.specs.Numbers.{goes_on}
use Rattle.zniffer_states.specs.Step.{done}
use Rattle.zniffer_core.specs.Run.{core_step_of, core_run_from}
use Rattle.zniffer.specs.Parse.{core_of, fresh_parser, refusal, step_of, run_from}
use Rattle.zniffer_laws.specs.Statements.{numbers, length_of, Left, Alike, InType, Bytes, EndsThere}
use Rattle.zniffer_states.proofs.Laws.{in_state}
use Rattle.choice.proofs.Choice.{either}
use Rattle.zniffer_laws.proofs.Reach.{no_id}
use Rattle.zniffer_core.proofs.RunLaws as core
use Rattle.zniffer.proofs.ParserLaws.{step_refused, run_refused}
use Rattle.zniffer_laws.proofs.AfterResult as after
use Rattle.zniffer_laws.proofs.Agree as agree
use Rattle.zniffer_laws.proofs.ReachParser.{left_alike, left_iff}
use Rattle.zniffer_laws.proofs.Place.{payload_stands}

-- a result other than IncompleteFrame
ends : (r : ParserResult) → (r ≡ IncompleteFrame → ⊥) → goes_on r ≡ false
ends IncompleteFrame h = absurd (h refl)
ends InvalidFrame h = refl
ends (ValidCommand i n) h = refl
ends (ValidFrame w k v g r n) h = refl

-- "After every result but IncompleteFrame the parser is fresh (idle, all else zero)": after a byte, and after several
pub fresh_after_byte : (p : Parser) (b : ℕ) → ((step_of p b).answer.result ≡ IncompleteFrame → ⊥) → (step_of p b).parser ≡ fresh_parser
fresh_after_byte p b h = after.fresh_parser_after p b (ends (step_of p b).answer.result h)

pub fresh_after_bytes : (p : Parser) (s : List ℕ) → ((run_from 0 s p).out.answer.result ≡ IncompleteFrame → ⊥) → (run_from 0 s p).parser ≡ fresh_parser
fresh_after_bytes p s h = after.fresh_after_run s 0 p (ends (run_from 0 s p).out.answer.result h)

-- "A parser that no bytes from fresh could have left, unused payload places not looked at, takes the byte, answers InvalidFrame and is fresh":
-- the test holds of just the parsers that are like one which some bytes leave, and the others do so
module _ (p : Parser) (in_type : InType (core_of p)) (bytes : Bytes p.payload) where
  pub test_says_left : (reachable_of (core_of p) ≡ true) ↔ ((q : Parser) × Left q × Alike p q)
  test_says_left = left_iff p in_type bytes

  fails : ((q : Parser) → Left q → Alike p q → ⊥) → reachable_of (core_of p) ≡ false
  fails none = either (reachable_of (core_of p)) (λ holds. let u = left_alike p in_type bytes holds in absurd (none u.0 u.1 u.2)) (λ no'. no')

  pub refused_byte : ((q : Parser) → Left q → Alike p q → ⊥) → (b : ℕ) → step_of p b ≡ record { parser = fresh_parser; answer = refusal }
  refused_byte none b = step_refused p b (fails none)

  pub refused_bytes : ((q : Parser) → Left q → Alike p q → ⊥) → (s : List ℕ) → 0 < length s → run_from 0 s p ≡ record { parser = fresh_parser; out = record { answer = refusal; used = 1 } }
  refused_bytes none s h = run_refused s p (fails none) h

-- "Length 0 gives a command, with id 0 after a frame start"
pub zero_after_frame_start : (c : Core) → reachable_of c ≡ true → c.state ≡ 2 → type_ok c.frame_type ≡ true → core_step_of c 0 ≡ done (ValidCommand 0 0)
zero_after_frame_start c h s t = sym (in_state 2 c 0 s ∙ core.taken c 0 h) ∙ ap (λ (i : ℕ). done (ValidCommand i 0)) (no_id c h s t)

-- the numbers alone give what the parser gives: result, bytes used, numbers left
pub numbers_agree : (p : Parser) (s : List ℕ) → core_run_from 0 s (core_of p) ≡ numbers (run_from 0 s p)
numbers_agree p s = agree.run_agrees s 0 p

-- a run uses no more bytes than there are, and at least one where there is one
pub used_most : (p : Parser) (s : List ℕ) → (run_from 0 s p).out.used ≤ length s
used_most p s = subst (λ (n : ℕ). n ≤ length s) (λ i. (numbers_agree p s i).used) (let h = core.used_most s 0 (core_of p) in omega (arith, h))

pub used_some : (p : Parser) (s : List ℕ) → 0 < length s → 0 < (run_from 0 s p).out.used
used_some p s h = subst (λ (n : ℕ). 0 < n) (λ i. (numbers_agree p s i).used) (core.used_some s 0 (core_of p) h)

-- from a fresh parser, a payload is the part of the input that ends where the bytes used end
pub payload_ends_there : (s : List ℕ) → ((k : ℕ) → get_or s k 0 < 256) → EndsThere s (run_from 0 s fresh_parser).out.answer (run_from 0 s fresh_parser).out.used
payload_ends_there s each =
    let st = payload_stands s each in let n = length_of (run_from 0 s fresh_parser).out.answer.result in
    let used = (run_from 0 s fresh_parser).out.used in let at = st.place in let back : st.from ≡ used - n = omega (arith, at) in
    record { within = used_most fresh_parser s; fits = omega (arith, at); bytes = subst (λ (k : ℕ). take n (run_from 0 s fresh_parser).out.answer.payload ≡ take n (drop k s)) back st.bytes }
