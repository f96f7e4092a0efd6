-- Payloads joined with no premise on their lengths: where the first is consumed, splitting gives what each holds beside the other. That is what it holds alone,
-- unless it is a bracket record with an empty body, in 4 bytes. Assumes nothing.
use Prim.Native.Nat.{ℕ, ◌+◌, ◌-◌, ◌<◌, ◌≤◌}
use lib.Dec.{ltb}
use lib.ListN.{length, get_or, drop, length-append, length-map}
use lib.Seq.{drop-append_seam}
use mathlib.Core.Bool.{true, false, true≢false, cond}
use mathlib.Core.List.{List, [], ◌∷◌, ◌++◌, append-nil, map, map-append, map-id, flat_map, Memᴰ}
use mathlib.Core.Path.{◌≡◌, refl, sym, ap, subst, ◌∙◌}
use native.Mathlib.Nat.{zero-add}
use native.Mathlib.Decide.{dec_le}
use native.Mathlib.Omega.{arith}
use borrow.Author.Tests.{le-ltb, ne_eqb}
use Rattle.std.proofs.lemmas.Bool.Decides.{nat_tests}
use Rattle.choice.proofs.Choice.{either}
use Rattle.choice.proofs.Flat.{map_same}
use Rattle.bracket.specs.Bracket.{length_at, next_at, good, Piece, body_at, bodies_from, bodies}
use Rattle.bracket.proofs.Walks.{past, is_good, unrolled}
use Rattle.bundles.specs.Bundles.{bracket_of, Consumed, bytes_of, contents, moved_by, Kept, KeptPlaces, empty_record, empty_body, beside, NoneGains, Whole}
use Rattle.bundles.proofs.Made.{bracket_size, there_length, there_good, taken_all}
use Rattle.bundles.proofs.Taken.{inner_at, some, inner_size, one_record}
use Rattle.bundles.proofs.Split.{short_bodies, first_bytes, moved_bytes, second_bodies, first_bodies}

-- the test for a bracket record with an empty body says what it should
is_record : (p : List ℕ) → length p ≡ 4 → get_or p 0 0 ≡ 0x5B → get_or p 1 0 ≡ 2 → get_or p 3 0 ≡ 0x5D → p ≡ bracket_of (get_or p 2 0 ∷ [])
unfolding bracket_of
is_record [] n a b d = absurd (omega arith)
is_record (w ∷ []) n a b d = absurd (omega arith)
is_record (w ∷ x ∷ []) n a b d = absurd (omega arith)
is_record (w ∷ x ∷ y ∷ []) n a b d = absurd (omega arith)
is_record (w ∷ x ∷ y ∷ z ∷ []) n a b d = rw (a, b, d) refl
is_record (w ∷ x ∷ y ∷ z ∷ v ∷ l) n a b d = absurd (omega arith)

empty_is : (p : List ℕ) → empty_record p ≡ true → p ≡ bracket_of (get_or p 2 0 ∷ [])
unfolding empty_record
empty_is p t = is_record p (grind (arith, nat_tests)) (grind (arith, nat_tests)) (grind (arith, nat_tests)) (grind (arith, nat_tests))

pub empty_four : (p : List ℕ) → empty_record p ≡ true → length p ≡ 4
empty_four p t = ap length (empty_is p t) ∙ bracket_size (get_or p 2 0 ∷ [])

abbrev Other : List ℕ → Type 0
Other p = (x : ℕ) → p ≡ bracket_of (x ∷ []) → ⊥

other_is : (p : List ℕ) → empty_record p ≡ false → Other p
unfolding empty_record bracket_of
other_is p t x e = true≢false (sym (ap empty_record e) ∙ t)

pub four_bytes : (p : List ℕ) → (length p ≡ 4 → ⊥) → empty_record p ≡ false
unfolding empty_record
four_bytes p h = simp (ne_eqb (length p) 4 h)

-- every other payload holds beside another what it holds alone
alone_beside : (p q : List ℕ) → (0 < length q → empty_record p ≡ false) → beside p q ≡ bodies p
unfolding beside
alone_beside p [] h = refl
alone_beside p (y ∷ q) h = simp (h (omega arith))

-- bracket records in fewer bytes than one takes are none
no_record : (inners : List (List ℕ)) → length (flat_map bracket_of inners) < 3 → flat_map bracket_of inners ≡ []
unfolding flat_map
no_record [] h = refl
no_record (i ∷ inners) h = absurd (omega (arith, length-append (bracket_of i) (flat_map bracket_of inners), bracket_size i))

-- bracket records in 4 bytes or fewer are none, one with an L of 1, or one with an empty body
module _ (P : List ℕ → Type 0) (none : P []) (bare : P (bracket_of [])) (empty : (x : ℕ) → P (bracket_of (x ∷ []))) where
  alone : (i : List ℕ) (inners : List (List ℕ)) → length (flat_map bracket_of inners) < 3 → P (bracket_of i) → P (bracket_of i ++ flat_map bracket_of inners)
  alone i inners h = subst P (sym (ap (λ (l : List ℕ). bracket_of i ++ l) (no_record inners h) ∙ append-nil (bracket_of i)))

  sorts : (inners : List (List ℕ)) → length (flat_map bracket_of inners) ≤ 4 → P (flat_map bracket_of inners)
  unfolding flat_map
  sorts [] h = none
  sorts ([] ∷ inners) h = alone [] inners (omega (arith, length-append (bracket_of []) (flat_map bracket_of inners), bracket_size [])) bare
  sorts ((x ∷ []) ∷ inners) h =
      alone (x ∷ []) inners (omega (arith, length-append (bracket_of (x ∷ [])) (flat_map bracket_of inners), bracket_size (x ∷ []))) (empty x)
  sorts ((x ∷ y ∷ body) ∷ inners) h =
      absurd (omega (arith, length-append (bracket_of (x ∷ y ∷ body)) (flat_map bracket_of inners), bracket_size (x ∷ y ∷ body)))

-- the first's part: the bodies that it holds beside other bytes
abbrev First : List ℕ → List ℕ → List Piece → Type 0
First p q l = bodies (p ++ q) ≡ l ++ bodies_from (p ++ q) (length p)

bare_first : (q : List ℕ) → 4 < length (bracket_of [] ++ q) → First (bracket_of []) q []
unfolding bracket_of bodies_from
bare_first q long =
    unrolled (λ (here : ℕ) (l : List Piece). body_at (bracket_of [] ++ q) here ++ l) [] (bracket_of [] ++ q) 0
    ∙ simp (is_good (bracket_of [] ++ q) 0 long (omega arith) refl refl)

empty_first : (x : ℕ) (q : List ℕ) → 4 < length (bracket_of (x ∷ []) ++ q) → First (bracket_of (x ∷ [])) q (empty_body ∷ [])
unfolding bracket_of bodies_from
empty_first x q long =
    unrolled (λ (here : ℕ) (l : List Piece). body_at (bracket_of (x ∷ []) ++ q) here ++ l) [] (bracket_of (x ∷ []) ++ q) 0
    ∙ simp (is_good (bracket_of (x ∷ []) ++ q) 0 long (omega arith) refl refl)

other_first : (p q : List ℕ) → Consumed p → 4 < length (p ++ q) → 0 < length p → Other p → First p q (bodies p)
other_first p q c long some_bytes other = by (dec_le (length p) 4)
  where
    by : Dec (length p ≤ 4) → First p q (bodies p)
    by (yes h) =
        sorts (λ (x : List ℕ). p ≡ x → First p q (bodies p))
        (λ (e : p ≡ []). absurd (omega (arith, ap length e)))
        (λ (e : p ≡ bracket_of []).
        rw (short_bodies p h) (subst (λ (x : List ℕ). 4 < length (x ++ q) → First x q []) (sym e) (bare_first q) long))
        (λ (x : ℕ) (e : p ≡ bracket_of (x ∷ [])). absurd (other x e))
        c.inners (omega (arith, ap length c.made)) c.made
    by (no h) = first_bodies p q (taken_all p (omega arith) c)

first_part : (p q : List ℕ) → Consumed p → 4 < length (p ++ q) → 0 < length p → 0 < length q → First p q (beside p q)
unfolding beside
first_part p [] c long some_bytes h = absurd (omega arith)
first_part p (y ∷ q) c long some_bytes h =
    either (empty_record p)
    (λ (t : empty_record p ≡ true).
    simp t
    (subst (λ (x : List ℕ). 4 < length (x ++ (y ∷ q)) → First x (y ∷ q) (empty_body ∷ [])) (sym (empty_is p t)) (empty_first _ (y ∷ q)) long))
    (λ (t : empty_record p ≡ false). simp t (other_first p (y ∷ q) c long some_bytes (other_is p t)))

-- the second's part
abbrev Second : List ℕ → List ℕ → List Piece → Type 0
Second p q l = bodies_from (p ++ q) (length p) ≡ map (moved_by (length p)) l

module _ (p q : List ℕ) (short : length q ≤ 4) where
  abbrev each : ℕ → List Piece → List Piece
  each here l = body_at (p ++ q) here ++ l

  late : (at : ℕ) → length p + 3 ≤ at → bodies_from (p ++ q) at ≡ []
  unfolding bodies_from
  late at h = unrolled each [] (p ++ q) at ∙ simp (past (p ++ q) at (omega (arith, length-append p q)))

  empty_second : (x : ℕ) → q ≡ bracket_of (x ∷ []) → 4 < length (p ++ q) → Second p q (empty_body ∷ [])
  unfolding bodies_from
  empty_second x e long =
      let is : p ++ q ≡ p ++ (bracket_of (x ∷ []) ++ []) = ap (λ (l : List ℕ). p ++ l) (e ∙ sym (append-nil (bracket_of (x ∷ [])))) in
      let rest = bodies_from (p ++ q) (next_at (p ++ q) (length p)) in
      unrolled each [] (p ++ q) (length p)
      ∙ simp (there_good (p ++ q) long p (x ∷ []) [] is)
      (ap (λ (l : ℕ). cond (ltb 1 l) (record { at = length p + 3; len = l - 2 } ∷ []) [] ++ rest) (there_length (p ++ q) long p (x ∷ []) [] is)
      ∙ ap (λ (l : List Piece). record { at = length p + 3; len = 0 } ∷ l) (late (next_at (p ++ q) (length p)) (omega (arith, there_length (p ++ q) long p (x ∷ []) [] is))))

  module _ (other : Other q) where
    only_bare : (inner rest : List ℕ) → q ≡ bracket_of inner ++ rest → length inner ≡ 0
    only_bare [] rest e = refl
    only_bare (x ∷ []) [] e = absurd (other x (e ∙ append-nil (bracket_of (x ∷ []))))
    only_bare (x ∷ []) (y ∷ rest) e = absurd (omega (arith, ap length e, length-append (bracket_of (x ∷ [])) (y ∷ rest), bracket_size (x ∷ [])))
    only_bare (x ∷ y ∷ inner) rest e =
        absurd (omega (arith, ap length e, length-append (bracket_of (x ∷ y ∷ inner)) rest, bracket_size (x ∷ y ∷ inner)))

    none_later : bodies_from (p ++ q) (length p) ≡ []
    unfolding bodies_from
    none_later =
        unrolled each [] (p ++ q) (length p)
        ∙ either (good (p ++ q) (length p))
        (λ (t : good (p ++ q) (length p) ≡ true).
        let is : q ≡ bracket_of (inner_at (p ++ q) (length p)) ++ drop (next_at (p ++ q) (length p)) (p ++ q) =
        sym (drop-append_seam p q) ∙ one_record (p ++ q) (length p) t
        in
        let one : length_at (p ++ q) (length p) ≡ 1 =
        omega (arith, only_bare (inner_at (p ++ q) (length p)) _ is, inner_size (p ++ q) (length p) t, some (p ++ q) (length p) t)
        in
        simp (t, le-ltb 1 (length_at (p ++ q) (length p)) (omega arith)) (late (next_at (p ++ q) (length p)) (omega arith)))
        (λ (t : good (p ++ q) (length p) ≡ false). simp t)

other_second : (p q : List ℕ) → Other q → Second p q (bodies q)
other_second p q other = by (dec_le (length q) 4)
  where
    by : Dec (length q ≤ 4) → Second p q (bodies q)
    by (yes h) = none_later p q h other ∙ sym (ap (map (moved_by (length p))) (short_bodies q h))
    by (no h) = second_bodies p q (omega arith)

second_part : (p q : List ℕ) → 4 < length (p ++ q) → 0 < length p → Second p q (beside q p)
unfolding beside
second_part [] q long h = absurd (omega arith)
second_part (y ∷ p) q long h =
    either (empty_record q)
    (λ (t : empty_record q ≡ true).
    simp t (empty_second (y ∷ p) q (omega (arith, empty_four q t)) (get_or q 2 0) (empty_is q t) long))
    (λ (t : empty_record q ≡ false). simp t (other_second (y ∷ p) q (other_is q t)))

-- both
both_parts : (p q : List ℕ) → Consumed p → 0 < length p → 0 < length q → Whole p q
both_parts p q c h k = by (dec_le (length (p ++ q)) 4)
  where
    same : (x y : List ℕ) → length x < 4 → beside x y ≡ bodies x
    same x y short = alone_beside x y (λ (h : 0 < length y). four_bytes x (λ (e : length x ≡ 4). omega arith))

    by : Dec (length (p ++ q) ≤ 4) → Whole p q
    by (yes short) =
        let a : length p < 4 = omega (arith, length-append p q) in
        let b : length q < 4 = omega (arith, length-append p q) in
        rw (short_bodies (p ++ q) short, same p q a, same q p b, short_bodies p (omega arith), short_bodies q (omega arith)) refl
    by (no long) = first_part p q c (omega arith) h k ∙ ap (λ (l : List Piece). beside p q ++ l) (second_part p q (omega arith) h)

pub whole : (p q : List ℕ) → Consumed p → Whole p q
unfolding beside
whole [] q c =
    sym
    (rw (alone_beside [] q (λ (h : 0 < length q). four_bytes [] (λ (e : ◌≡◌ {A = ℕ} 0 4). omega arith)), short_bodies [] (omega arith))
    (map_same (moved_by 0) (λ (b : Piece). b) (bodies q) (λ (b : Piece) (m : Memᴰ b (bodies q)). ap (λ (k : ℕ). record { at = k; len = b.len }) (zero-add b.at))
    ∙ map-id (bodies q)))
whole (a ∷ p) [] c =
    rw (
      append-nil (a ∷ p),
      alone_beside [] (a ∷ p) (λ (h : 0 < length (a ∷ p)). four_bytes [] (λ (e : ◌≡◌ {A = ℕ} 0 4). omega arith)),
      short_bodies [] (omega arith),
      append-nil (bodies (a ∷ p)),
    )
    refl
whole (a ∷ p) (b ∷ q) c = both_parts (a ∷ p) (b ∷ q) c (omega arith) (omega arith)

-- as bytes
beside_bytes : (p q r : List ℕ) → map (bytes_of (p ++ r)) (beside p q) ≡ map (bytes_of p) (beside p q)
unfolding beside contents
beside_bytes p [] r = first_bytes p r
beside_bytes p (y ∷ q) r = either (empty_record p) (λ (t : empty_record p ≡ true). simp t) (λ (t : empty_record p ≡ false). simp t (first_bytes p r))

pub whole_contents : (p q : List ℕ) → Consumed p → contents (p ++ q) ≡ map (bytes_of p) (beside p q) ++ map (bytes_of q) (beside q p)
unfolding contents
whole_contents p q c =
    ap (map (bytes_of (p ++ q))) (whole p q c)
    ∙ map-append (bytes_of (p ++ q)) (beside p q) (map (moved_by (length p)) (beside q p))
    ∙ rw (beside_bytes p q q, moved_bytes p q (beside q p)) refl

-- so the bodies of the two are kept where neither is such a record beside other bytes, and only there
pub kept_there : (p q : List ℕ) → Consumed p → NoneGains p q → KeptPlaces p q
kept_there p q c n = whole p q c ∙ rw (alone_beside p q n.first, alone_beside q p n.second) refl

more_beside : (p q : List ℕ) {X : Type 0} → ((0 < length q → empty_record p ≡ false) → X) → (length (beside p q) ≡ length (bodies p) + 1 → X) → X
unfolding beside
more_beside p [] same more = same (λ (h : ◌<◌ 0 0). absurd (omega arith))
more_beside p (y ∷ q) same more =
    either (empty_record p)
    (λ (t : empty_record p ≡ true). more (simp t (sym (ap (λ (l : List Piece). length l + 1) (short_bodies p (omega (arith, empty_four p t)))))))
    (λ (t : empty_record p ≡ false). same (λ (h : 0 < length (y ∷ q)). t))

pub kept_only : (p q : List ℕ) → Consumed p → Kept p q → NoneGains p q
unfolding contents
kept_only p q c kept =
    more_beside p q
    (λ (f : 0 < length q → empty_record p ≡ false).
    more_beside q p (λ (s : 0 < length p → empty_record q ≡ false). record { first = f; second = s })
    (λ (g : length (beside q p) ≡ length (bodies q) + 1). absurd (omega (arith, counted, ap length (alone_beside p q f)))))
    (λ (g : length (beside p q) ≡ length (bodies p) + 1).
    more_beside q p (λ (s : 0 < length p → empty_record q ≡ false). absurd (omega (arith, counted, ap length (alone_beside q p s))))
    (λ (h : length (beside q p) ≡ length (bodies q) + 1). absurd (omega (arith, counted))))
  where
    number : (x : List ℕ) → length (contents x) ≡ length (bodies x)
    number x = length-map (bodies x) (bytes_of x)

    counted : length (beside p q) + length (beside q p) ≡ length (bodies p) + length (bodies q)
    counted =
        omega (
          arith,
          ap length (whole p q c),
          length-append (beside p q) (map (moved_by (length p)) (beside q p)),
          length-map (beside q p) (moved_by (length p)),
          ap length kept,
          length-append (contents p) (contents q),
          number (p ++ q),
          number p,
          number q,
        )
