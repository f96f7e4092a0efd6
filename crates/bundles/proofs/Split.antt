-- Splitting two payloads joined: the bodies of the first, and those from the place on where its good bracket records stop. Where they take all of the first,
-- those are the second's, moved on. Assumes nothing.
use Prim.Native.Nat.{ℕ, zero, suc, ◌+◌, ◌<◌, ◌≤◌}
use lib.Dec.{ltb}
use lib.ListN.{length, take, drop, length-drop}
use lib.Seq.{drop-append-add, drop-append-le, take-append-le}
use mathlib.Core.Bool.{true, false}
use mathlib.Core.List.{List, [], ◌++◌, append_assoc, map, map-append, map-map, Memᴰ}
use mathlib.Core.Path.{◌≡◌, refl, sym, ap, ◌∙◌}
use native.Mathlib.Nat.{add_assoc}
use native.Mathlib.Omega.{arith}
use Rattle.choice.proofs.Choice.{either}
use Rattle.choice.proofs.Flat.{map_same}
use Rattle.bracket.specs.Bracket.{length_at, next_at, good, Piece, body_at, walk, bodies_from, bodies}
use Rattle.bracket.proofs.Walks.{too_short, unrolled}
use Rattle.bracket.proofs.Splitting.{bodies_inside}
use Rattle.bundles.specs.Bundles.{taken, bytes_of, contents, moved_by, Kept, KeptPlaces}
use Rattle.bundles.proofs.Over.{same_length, later_length, first, second}

-- 4 bytes or fewer hold nothing
pub short_bodies : (p : List ℕ) → length p ≤ 4 → bodies p ≡ []
unfolding bodies_from
short_bodies p short = unrolled (λ (here : ℕ) (l : List Piece). body_at p here ++ l) [] p 0 ∙ simp (too_short p 0 short)

pub short_contents : (p : List ℕ) → length p ≤ 4 → contents p ≡ []
unfolding contents
short_contents p short = ap (map (bytes_of p)) (short_bodies p short)

-- what follows a walk that joins lists comes last
list_end : {A : Type 0} (p : List ℕ) (each : ℕ → List A) (more : List A) (n at : ℕ)
    → walk (λ (here : ℕ) (rest : List A). each here ++ rest) more p n at ≡ walk (λ (here : ℕ) (rest : List A). each here ++ rest) [] p n at ++ more
unfolding walk
list_end p each more zero at = refl
list_end {A = A} p each more (suc n) at =
    either (good p at)
    (λ (t : good p at ≡ true). simp t (ap (λ (r : List A). each at ++ r) (list_end p each more n (next_at p at)) ∙ sym (append_assoc (each at) _ more)))
    (λ (t : good p at ≡ false). simp t)

module _ (p q : List ℕ) where
  -- with no premise
  pub split_on : bodies (p ++ q) ≡ bodies p ++ bodies_from (p ++ q) (taken p)
  unfolding bodies_from
  split_on =
      first p q (λ (here : ℕ) (l : List Piece). body_at p here ++ l) (λ (here : ℕ) (l : List Piece). body_at (p ++ q) here ++ l) []
      (λ (here : ℕ) (g : good p here ≡ true) (l : List Piece). rw (same_length p q here g))
      ∙ list_end p (body_at p) _ (length p) 0

  -- the first's bodies have the bytes that they had
  pub same_body : (b : Piece) → Memᴰ b (bodies p) → bytes_of (p ++ q) b ≡ bytes_of p b
  same_body b m =
      let h : b.at + b.len ≤ length p = bodies_inside p b m in
      ap (take b.len) (drop-append-le b.at p q (omega arith))
      ∙ take-append-le b.len (drop b.at p) q (omega (arith, length-drop b.at p))

  pub first_bytes : map (bytes_of (p ++ q)) (bodies p) ≡ contents p
  unfolding contents
  first_bytes = map_same (bytes_of (p ++ q)) (bytes_of p) (bodies p) same_body

  -- and so have any of the second, further on
  pub moved_bytes : (l : List Piece) → map (bytes_of (p ++ q)) (map (moved_by (length p)) l) ≡ map (bytes_of q) l
  moved_bytes l =
      map-map (bytes_of (p ++ q)) (moved_by (length p)) l
      ∙ map_same (λ (b : Piece). bytes_of (p ++ q) (moved_by (length p) b)) (bytes_of q) l
      (λ (b : Piece) (m : Memᴰ b l). ap (take b.len) (drop-append-add p q b.at))

  pub contents_on : contents (p ++ q) ≡ contents p ++ map (bytes_of (p ++ q)) (bodies_from (p ++ q) (taken p))
  unfolding contents
  contents_on =
      ap (map (bytes_of (p ++ q))) split_on
      ∙ map-append (bytes_of (p ++ q)) (bodies p) (bodies_from (p ++ q) (taken p))
      ∙ ap (λ (l : List (List ℕ)). l ++ map (bytes_of (p ++ q)) (bodies_from (p ++ q) (taken p))) first_bytes

  -- what is kept as places is kept as bytes
  pub places_kept : KeptPlaces p q → Kept p q
  unfolding contents
  places_kept e =
      ap (map (bytes_of (p ++ q))) e
      ∙ map-append (bytes_of (p ++ q)) (bodies p) (map (moved_by (length p)) (bodies q))
      ∙ rw (first_bytes, moved_bytes (bodies q)) refl

  -- from the second's first byte on
  module _ (long : 4 < length q) where
    moved_body : (k : ℕ) (l : List Piece) → body_at (p ++ q) (length p + k) ++ map (moved_by (length p)) l ≡ map (moved_by (length p)) (body_at q k ++ l)
    moved_body k l =
        rw (later_length p q k)
        (either (ltb 1 (length_at q k))
        (λ (t : ltb 1 (length_at q k) ≡ true). simp (t, add_assoc (length p) k 3))
        (λ (t : ltb 1 (length_at q k) ≡ false). simp t))

    pub second_bodies : bodies_from (p ++ q) (length p) ≡ map (moved_by (length p)) (bodies q)
    unfolding bodies_from
    second_bodies =
        second p q (λ (here : ℕ) (l : List Piece). body_at q here ++ l) [] (λ (here : ℕ) (l : List Piece). body_at (p ++ q) here ++ l)
        (map (moved_by (length p))) long moved_body

  -- where the first's good records take all of it
  module _ (all : taken p ≡ length p) where
    pub first_bodies : bodies (p ++ q) ≡ bodies p ++ bodies_from (p ++ q) (length p)
    first_bodies = split_on ∙ ap (λ (k : ℕ). bodies p ++ bodies_from (p ++ q) k) all
