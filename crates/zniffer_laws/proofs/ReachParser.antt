-- The test on a parser's numbers holds of just those parsers that are like one which some bytes from a fresh parser leave: unused payload places are not looked at. Assumes nothing.
use Prim.Native.Nat.{ℕ, zero, suc, ◌<◌, ◌+◌}
use lib.Dec.{ltb, eqb}
use lib.ListN.{length, set, get_or, take, length-set, length-replicate}
use lib.Seq.{take-suc, take-suc-set}
use mathlib.Core.Bool.{Bool, true, false, ◌&&◌, cond}
use mathlib.Core.List.{List}
use mathlib.Core.Logic.{◌↔◌}
use mathlib.Core.Path.{◌≡◌, refl, sym, subst, ap, ◌∙◌}
use native.Mathlib.Omega.{arith}
use native.Mathlib.Numerals.{add-one}
use borrow.Author.Tests.{lt-ltb, eqb-true, ltb-true}
use Rattle.zniffer_numbers.specs.declared.Core.{Core}
use Rattle.zniffer_numbers.specs.declared.ParserResult.{ParserResult}
use Rattle.zniffer_numbers.specs.declared.ParserResult.TheVariants.{ValidCommand, ValidFrame, IncompleteFrame, InvalidFrame}
use Rattle.zniffer_tests.specs.Tests.{headed, reachable_of}
use Rattle.zniffer_numbers.specs.Numbers.{core, goes_on}
use Rattle.zniffer_states.specs.Step.{going, take_of}
use Rattle.zniffer_core.specs.Run.{core_step_of}
use Rattle.zniffer_laws.specs.Statements.{plain_step, Reached, fresh_core_lem, byte_more, Left, fresh, more, Alike, InType, Bytes}
use Rattle.choice.proofs.Choice.{left_true as left, right_true as right, either}
use Rattle.zniffer_laws.proofs.Reach.{reached, passes, heads, length_step, payload_step}
use Rattle.zniffer.specs.declared.parser.Parser.{Parser}
use Rattle.zniffer.specs.Parse.{core_of, zeros, fresh_parser, with_byte, settle, step_of}
use Rattle.zniffer_core.proofs.RunLaws.{taken}
use Rattle.zniffer.proofs.Agree.{settle_core, step_core, next_of}
use Rattle.zniffer.proofs.Filled.{none_yet}

-- the numbers of a parser that is left are reached, so that it passes the test and takes a byte as any parser does
numbers_reached : {p : Parser} → Left p → Reached (core_of p)
numbers_reached fresh = fresh_core_lem
numbers_reached (more {p} l b fits) =
    rw (settle_core (take_of (core_of p) b).core (with_byte (core_of p) p.payload b) (take_of (core_of p) b).result) (byte_more (numbers_reached l) b fits)

one_byte : {p : Parser} → Left p → (b : ℕ) → b < 256 → Left (step_of p b).parser
unfolding step_of
one_byte {p} l b fits = rw (← taken (core_of p) b (passes (numbers_reached l))) (more l b fits)

-- and each reached core is some left parser's
abbrev Lifted : Core → Type 0
Lifted c = (p : Parser) × Left p × (core_of p ≡ c)

lift : {c : Core} → Reached c → Lifted c
lift fresh_core_lem = (fresh_parser, fresh, refl)
lift (byte_more {c} r b fits) =
    let u = lift r in
    ((plain_step u.0 b).parser, more u.1 b fits, settle_core (take_of (core_of u.0) b).core _ (take_of (core_of u.0) b).result ∙ ap (λ (d : Core). (take_of d b).core) u.2)

-- every left parser has a payload of 255 places
pub zeros_long : length zeros ≡ 255
unfolding zeros
zeros_long = length-replicate {A = ℕ} 255 0

pub picked_long : (t : Bool) (a b : List ℕ) → length a ≡ 255 → length b ≡ 255 → length (cond t a b) ≡ 255
picked_long true a b x y = x
picked_long false a b x y = y

settled_long : (c : Core) (l : List ℕ) (r : ParserResult) → length l ≡ 255 → length (settle c l r).parser.payload ≡ 255
settled_long c l IncompleteFrame h = h
settled_long c l InvalidFrame h = zeros_long
settled_long c l (ValidCommand i n) h = zeros_long
settled_long c l (ValidFrame w k v g r n) h = zeros_long

pub long : {p : Parser} → Left p → length p.payload ≡ 255
long fresh = zeros_long
long (more {p} l b fits) =
    let h = long l in
    settled_long (take_of (core_of p) b).core (with_byte (core_of p) p.payload b) (take_of (core_of p) b).result
    (picked_long (eqb p.state 3 && ltb p.count p.length) (set p.payload p.count b) p.payload (simp length-set h) h)

-- a header, and then the bytes of a payload, one by one
module _ (i t w ch sp g r : ℕ) (head : Reached (core 2 i 0 0 t w false ch sp g r)) (ok : headed (core 2 i 0 0 t w false ch sp g r) ≡ true) (l : ℕ) (l_fits : l < 256) (bytes : List ℕ) (are : Bytes bytes) where
  abbrev Filled : ℕ → Type 0
  Filled n = (p : Parser) × Left p × (core_of p ≡ core 3 i l n t w false ch sp g r) × (take n p.payload ≡ take n bytes)

  one_more_lem : (n : ℕ) → n + 1 < l → Filled n → Filled (n + 1)
  one_more_lem n on u =
      let b = get_or bytes n 0 in let p = u.0 in
      let going_on : core_step_of (core_of p) b ≡ going (core 3 i l (n + 1) t w false ch sp g r) = rw u.2 (payload_step i t w ch sp g r ok l n b on) in
      let yes : goes_on (core_step_of (core_of p) b).result ≡ true = rw going_on in
      let next = next_of (core_of p) p.payload b (core_step_of (core_of p) b) (with_byte (core_of p) p.payload b) refl refl yes in
      let here : ltb n l ≡ true = lt-ltb n l (omega (arith, on)) in
      let put : with_byte (core_of p) p.payload b ≡ set p.payload n b = subst (λ (d : Core). with_byte d p.payload b ≡ set p.payload n b) (sym u.2) (rw here) in
      let within : n < length p.payload = omega (arith, long u.1, on, l_fits) in let within' : n < length bytes = omega (arith, are.long, on, l_fits) in
      let filled : take (n + 1) (set p.payload n b) ≡ take (n + 1) bytes = rw (add-one n, take-suc-set p.payload n b within, u.3) (sym (take-suc bytes n 0 within')) in
      ((step_of p b).parser, one_byte u.1 b (are.each n), rw next (rw going_on), rw (next, put) filled)

  no_byte : 0 < l → Filled 0
  no_byte lt =
      let u = lift head in
      ((step_of u.0 l).parser, one_byte u.1 l l_fits, rw (step_core u.0 l, u.2) (λ j. (length_step i t w ch sp g r ok l lt j).core), refl)

  next_byte : (n : ℕ) → suc n < l → Filled n → Filled (suc n)
  next_byte n lt u = let on : n + 1 < l = rw (add-one n) lt in subst Filled (add-one n) (one_more_lem n on u)

  before : (n : ℕ) → suc n < l → n < l
  before n lt = omega (arith, lt)

  fill : (n : ℕ) → n < l → Filled n
  fill zero lt = no_byte lt
  fill (suc n) lt = next_byte n lt (fill n (before n lt))

pub take_none : (n : ℕ) (a b : List ℕ) → n ≡ 0 → take n a ≡ take n b
take_none n a b e = rw e

-- a parser whose numbers are d, and one that is left and has them too
alike_at : (p : Parser) (d : Core) → core_of p ≡ d → ((q : Parser) × Left q × (core_of q ≡ d) × (take p.count q.payload ≡ take p.count p.payload)) → (q : Parser) × Left q × Alike p q
alike_at p d e u = (u.0, u.1, record { numbers = e ∙ sym u.2; bytes = sym u.3 })

pub left_alike : (p : Parser) → InType (core_of p) → Bytes p.payload → reachable_of (core_of p) ≡ true → (q : Parser) × Left q × Alike p q
left_alike p in_type are h =
    let c = core_of p in
    either (eqb c.state 3)
    (λ yes'.
    let s = eqb-true c.state 3 yes' in let all : (headed c && ltb c.count c.length) ≡ true = rw s at h in
    let hd = left (headed c) (ltb c.count c.length) all in let r = heads c in_type hd in
    let lt = ltb-true c.count c.length (right (headed c) (ltb c.count c.length) all) in
    let ok : headed (core 2 c.command_id 0 0 c.frame_type c.timestamp false c.channel c.speed c.region c.rssi) ≡ true = rw r.1 at hd in
    let u = fill c.command_id c.frame_type c.timestamp c.channel c.speed c.region c.rssi r.0 ok c.length in_type.length p.payload are c.count lt in
    let same : c ≡ core 3 c.command_id c.length c.count c.frame_type c.timestamp false c.channel c.speed c.region c.rssi =
    λ j. core (s j) c.command_id c.length c.count c.frame_type c.timestamp (r.1 j) c.channel c.speed c.region c.rssi in
    alike_at p _ same u)
    (λ no'.
    let z = eqb-true c.count 0 (right (eqb c.length 0) (eqb c.count 0) (none_yet c h no')) in let u = lift (reached c in_type h) in
    (u.0, u.1, record { numbers = sym u.2; bytes = take_none c.count p.payload u.0.payload z }))

-- the two ways together
pub left_iff : (p : Parser) → InType (core_of p) → Bytes p.payload → (reachable_of (core_of p) ≡ true) ↔ ((q : Parser) × Left q × Alike p q)
left_iff p in_type are = (left_alike p in_type are, λ u. subst (λ (d : Core). reachable_of d ≡ true) (sym u.2.numbers) (passes (numbers_reached u.1)))
