-- Payloads made of bracket records: the splitter takes them to their last byte, and gives the bodies that they were made of. Assumes nothing.
use Prim.Native.Nat.{ℕ, zero, suc, ◌+◌, ◌-◌, ◌<◌}
use lib.ListN.{length, get_or, take, drop, length-append}
use lib.Seq.{get_or-append-add, get_or-append_seam, drop-append-add, take-append_seam}
use mathlib.Core.Bool.{true, false}
use mathlib.Core.List.Memᴰ
use mathlib.Core.List.{List, [], ◌∷◌, ◌++◌, append_assoc, append-nil, foldr, map, map-append, flat_map, Memᴰ}
use mathlib.Core.Logic.{⊎_elim}
use mathlib.Core.Path.{◌≡◌, refl, sym, ap, ◌∙◌}
use native.Mathlib.Omega.{arith}
use borrow.Author.Tests.{lt-ltb, le-ltb}
use Rattle.choice.proofs.Choice.{either}
use Rattle.choice.proofs.Flat.{flat_each}
use Rattle.bracket.specs.Bracket.{length_at, close_at, next_at, good, Piece, body_at, walk, bodies_from}
use Rattle.bracket.proofs.Walks.{is_good, outside, unrolled}
use Rattle.bundles.specs.Bundles.{bracket_of, body_in, Bytes, Consumed, size_at, taken, bytes_of, contents}

-- every join of bracket records is consumed to its last byte; where the bodies have 0 to 253 bytes, or L is 1, it is bytes (`made_bytes`)
pub made_consumed : (inners : List (List ℕ)) → Consumed (flat_map bracket_of inners)
made_consumed inners = record { inners = inners; made = refl }

pub bracket_size : (inner : List ℕ) → length (bracket_of inner) ≡ length inner + 3
unfolding bracket_of
bracket_size inner = simp length-append (omega arith)

-- a bracket record that stands somewhere in a payload
module _ (w : List ℕ) (long : 4 < length w) (pre inner rest : List ℕ) (is : w ≡ pre ++ (bracket_of inner ++ rest)) where
  there_byte : (k : ℕ) → get_or w (length pre + k) 0 ≡ get_or (bracket_of inner ++ rest) k 0
  there_byte k = ap (λ (x : List ℕ). get_or x (length pre + k) 0) is ∙ get_or-append-add pre (bracket_of inner ++ rest) k 0

  pub there_length : length_at w (length pre) ≡ length inner + 1
  unfolding bracket_of
  there_length = there_byte 1

  there_next : next_at w (length pre) ≡ length (pre ++ bracket_of inner)
  there_next = omega (arith, there_length, length-append pre (bracket_of inner), bracket_size inner)

  there_close : get_or w (close_at w (length pre)) 0 ≡ 0x5D
  unfolding bracket_of
  there_close =
      ap (λ (k : ℕ). get_or w k 0) {x = close_at w (length pre)} {y = length pre + suc (suc (length inner))} (omega (arith, there_length))
      ∙ there_byte (suc (suc (length inner)))
      ∙ ap (λ (x : List ℕ). get_or x (length inner) 0) (append_assoc inner _ rest)
      ∙ get_or-append_seam inner _ rest 0

  pub there_good : good w (length pre) ≡ true
  unfolding bracket_of
  there_good =
      is_good w (length pre) long
      (omega (arith, there_length, ap length is, length-append pre (bracket_of inner ++ rest), length-append (bracket_of inner) rest, bracket_size inner))
      (ap (λ (k : ℕ). get_or w k 0) {x = length pre} {y = length pre + 0} (omega arith) ∙ there_byte 0)
      there_close

-- the walk over a payload that is made of bracket records: what it makes of each depends on what that was made of
module _ {A : Type 0} (w : List ℕ) (long : 4 < length w) (each : ℕ → A → A) (end : A) (made : List ℕ → A → A)
    (same : (pre inner rest : List ℕ) → w ≡ pre ++ (bracket_of inner ++ rest) → (a : A) → each (length pre) a ≡ made inner a) where
  abbrev from : ℕ → A
  from at = walk each end w (length w) at

  made_walk : (pre : List ℕ) (inners : List (List ℕ)) → w ≡ pre ++ flat_map bracket_of inners → from (length pre) ≡ foldr made end inners
  unfolding flat_map
  made_walk pre [] is = sym (outside each end w (length w) (length pre) (omega (arith, ap length (is ∙ append-nil pre))))
  made_walk pre (i ∷ inners) is =
      let rest = flat_map bracket_of inners in
      unrolled each end w (length pre)
      ∙ simp (there_good w long pre i rest is)
      (ap (λ (k : ℕ). each (length pre) (from k)) (there_next w long pre i rest is)
      ∙ ap (each (length pre)) (made_walk (pre ++ bracket_of i) inners (is ∙ sym (append_assoc pre (bracket_of i) rest)))
      ∙ same pre i rest is _)

  made_of : (inners : List (List ℕ)) → w ≡ flat_map bracket_of inners → from 0 ≡ foldr made end inners
  made_of inners is = made_walk [] inners is

-- the splitter takes all of it
sizes : (inners : List (List ℕ)) → foldr (λ (i : List ℕ) (n : ℕ). (length i + 3) + n) 0 inners ≡ length (flat_map bracket_of inners)
unfolding flat_map
sizes [] = refl
sizes (i ∷ inners) = omega (arith, sizes inners, length-append (bracket_of i) (flat_map bracket_of inners), bracket_size i)

pub taken_all : (p : List ℕ) → 4 < length p → Consumed p → taken p ≡ length p
unfolding taken
taken_all p long c =
    made_of p long (λ (here rest : ℕ). size_at p here + rest) 0 (λ (i : List ℕ) (n : ℕ). (length i + 3) + n)
    (λ (pre inner rest : List ℕ) (is : p ≡ pre ++ (bracket_of inner ++ rest)) (n : ℕ). omega (arith, there_length p long pre inner rest is))
    c.inners c.made
    ∙ sizes c.inners
    ∙ sym (ap length c.made)

-- a function of what a walk comes to
through : {A B : Type 0} (f : A → B) (each : ℕ → A → A) (then : ℕ → B → B) (end : A) (p : List ℕ)
    → ((here : ℕ) (a : A) → f (each here a) ≡ then here (f a)) → (n at : ℕ) → f (walk each end p n at) ≡ walk then (f end) p n at
unfolding walk
through f each then end p same zero at = refl
through {B = B} f each then end p same (suc n) at =
    either (good p at)
    (λ (t : good p at ≡ true).
    simp t (same at (walk each end p n (next_at p at)) ∙ ap (then at) (through f each then end p same n (next_at p at))))
    (λ (t : good p at ≡ false). simp t)

-- the body of a bracket record that stands somewhere
there_body : (w : List ℕ) → 4 < length w → (pre inner rest : List ℕ) → w ≡ pre ++ (bracket_of inner ++ rest) → map (bytes_of w) (body_at w (length pre)) ≡ body_in inner
unfolding body_in bracket_of
there_body w long pre [] rest is = simp (le-ltb 1 (length_at w (length pre)) (omega (arith, there_length w long pre [] rest is)))
there_body w long pre (skipped ∷ body) rest is =
    let n : length_at w (length pre) ≡ length (skipped ∷ body) + 1 = there_length w long pre (skipped ∷ body) rest is in
    simp (lt-ltb 1 (length_at w (length pre)) (omega arith))
    (ap (λ (b : List ℕ). b ∷ [])
    (ap (λ (k : ℕ). take k (drop (length pre + 3) w)) {x = length_at w (length pre) - 2} {y = length body} (omega arith) ∙ stands))
  where
    stands : take (length body) (drop (length pre + 3) w) ≡ body
    stands =
        ap (λ (x : List ℕ). take (length body) (drop (length pre + 3) x)) is
        ∙ ap (take (length body)) (drop-append-add pre (bracket_of (skipped ∷ body) ++ rest) 3 ∙ append_assoc body _ rest)
        ∙ take-append_seam body _

laid : (inners : List (List ℕ)) → foldr (λ (i : List ℕ) (l : List (List ℕ)). body_in i ++ l) [] inners ≡ flat_map body_in inners
unfolding flat_map
laid [] = refl
laid (i ∷ inners) = ap (λ (l : List (List ℕ)). body_in i ++ l) (laid inners)

-- splitting gives the bodies of the bracket records that a payload is made of
module _ (w : List ℕ) (long : 4 < length w) where
  with_bytes : ℕ → List (List ℕ) → List (List ℕ)
  with_bytes here l = map (bytes_of w) (body_at w here) ++ l

  as_bytes : contents w ≡ walk with_bytes [] w (length w) 0
  unfolding contents bodies_from with_bytes
  as_bytes =
      through (map (bytes_of w)) (λ (here : ℕ) (l : List Piece). body_at w here ++ l) with_bytes [] w
      (λ (here : ℕ) (l : List Piece). map-append (bytes_of w) (body_at w here) l) (length w) 0

  there_bytes : (pre inner rest : List ℕ) → w ≡ pre ++ (bracket_of inner ++ rest) → (l : List (List ℕ)) → with_bytes (length pre) l ≡ body_in inner ++ l
  unfolding with_bytes
  there_bytes pre inner rest is l = ap (λ (b : List (List ℕ)). b ++ l) (there_body w long pre inner rest is)

pub made_contents : (inners : List (List ℕ)) → 4 < length (flat_map bracket_of inners) → contents (flat_map bracket_of inners) ≡ flat_map body_in inners
made_contents inners long =
    let w = flat_map bracket_of inners in
    as_bytes w long
    ∙ made_of w long (with_bytes w long) [] (λ (i : List ℕ) (l : List (List ℕ)). body_in i ++ l) (there_bytes w long) inners refl
    ∙ laid inners

-- such a payload is bytes, if what it was made of is: L is a byte where a body has 253 bytes at most
by_place : (l : List ℕ) → ((x : ℕ) → Memᴰ x l → x < 256) → (k : ℕ) → get_or l k 0 < 256
by_place [] h k = omega arith
by_place (x ∷ l) h zero = h x (Memᴰ.head refl)
by_place (x ∷ l) h (suc k) = by_place l (λ (y : ℕ) (m : Memᴰ y l). h y (Memᴰ.tail m)) k

bracket_bytes : (i : List ℕ) → Bytes i → (x : ℕ) → Memᴰ x (bracket_of i) → x < 256
unfolding bracket_of
bracket_bytes i b x m =
    ⊎_elim (λ (e : x ≡ 0x5B). omega arith)
    (λ (k : Memᴰ x ((length i + 1) ∷ (i ++ (0x5D ∷ [])))).
    ⊎_elim (λ (e : x ≡ length i + 1). omega (arith, b.0))
    (λ (j : Memᴰ x (i ++ (0x5D ∷ []))).
    ⊎_elim (b.1 x) (λ (l : Memᴰ x (0x5D ∷ [])). omega (arith, Memᴰ.eq_of_singleton l)) (Memᴰ.append_cases i j))
    (Memᴰ.cases_cons k))
    (Memᴰ.cases_cons m)

pub made_bytes : (inners : List (List ℕ)) → ((i : List ℕ) → Memᴰ i inners → Bytes i) → (k : ℕ) → get_or (flat_map bracket_of inners) k 0 < 256
made_bytes inners h =
    by_place (flat_map bracket_of inners)
    (flat_each (λ (x : ℕ). x < 256) bracket_of inners (λ (i : List ℕ) (m : Memᴰ i inners). bracket_bytes i (h i m)))
