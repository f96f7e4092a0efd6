-- The walk over two payloads joined: it is the walk over the first, up to where that stops, and goes on from there; from the second's first byte on it is the
-- walk over the second. Assumes nothing.
use Prim.Native.Nat.{ℕ, zero, suc, ◌+◌, ◌<◌}
use lib.Dec.{eqb, ltb}
use lib.ListN.{length, get_or, length-append, get_or-append}
use lib.Seq.{get_or-append-add}
use mathlib.Core.Bool.{Bool, true, false, ◌&&◌}
use mathlib.Core.List.{List, ◌++◌}
use mathlib.Core.Path.{◌≡◌, refl, sym, ap, ◌∙◌}
use native.Mathlib.Nat.{add-zero, add_assoc}
use native.Mathlib.Omega.{arith}
use borrow.Author.Tests.{lt-ltb}
use Rattle.std.proofs.lemmas.Bool.Decides.{nat_tests}
use Rattle.choice.proofs.Choice.{either}
use Rattle.bracket.specs.Bracket.{length_at, close_at, next_at, good, walk}
use Rattle.bracket.proofs.Walks.{enough, unrolled}
use Rattle.bracket.proofs.Splitting.{good_fits}
use Rattle.bundles.specs.Bundles.{size_at, taken}

-- the record test, by what it reads
tested : Bool → Bool → ℕ → ℕ → ℕ → Bool
tested long fits opened closed size = long && (fits && (eqb opened 0x5B && (eqb closed 0x5D && ltb 0 size)))

good_is : (p : List ℕ) (at : ℕ)
    → good p at ≡ tested (ltb 4 (length p)) (ltb (close_at p at) (length p)) (get_or p at 0) (get_or p (close_at p at) 0) (length_at p at)
unfolding good tested
good_is p at = refl

tested_same : {a a' b b' : Bool} {c c' d d' e e' : ℕ} → a ≡ a' → b ≡ b' → c ≡ c' → d ≡ d' → e ≡ e' → tested a b c d e ≡ tested a' b' c' d' e'
tested_same p q r s t = cc

-- a payload with a good bracket record is longer than 4 bytes
pub good_long : (p : List ℕ) (at : ℕ) → good p at ≡ true → 4 < length p
unfolding good
good_long p at g = grind (arith, nat_tests)

ltb_past : (far a b : ℕ) → ltb (far + a) (far + b) ≡ ltb a b
ltb_past far a b = grind (arith, nat_tests)

module _ (p q : List ℕ) where
  -- a good bracket record of the first is one of the two
  module _ (at : ℕ) (g : good p at ≡ true) where
    fits : close_at p at < length p
    fits = good_fits p at g

    pub same_length : length_at (p ++ q) at ≡ length_at p at
    same_length = get_or-append p q 0 (at + 1) (omega (arith, fits))

    good_first : good (p ++ q) at ≡ true
    good_first =
        good_is (p ++ q) at
        ∙ tested_same
        (lt-ltb 4 (length (p ++ q)) (omega (arith, good_long p at g, length-append p q)) ∙ sym (lt-ltb 4 (length p) (good_long p at g)))
        (lt-ltb (close_at (p ++ q) at) (length (p ++ q)) (omega (arith, fits, same_length, length-append p q)) ∙ sym (lt-ltb (close_at p at) (length p) fits))
        (get_or-append p q 0 at (omega (arith, fits)))
        (ap (λ (n : ℕ). get_or (p ++ q) (at + 1 + n) 0) same_length ∙ get_or-append p q 0 (close_at p at) fits)
        same_length
        ∙ sym (good_is p at)
        ∙ g

  -- the second's bytes, and its bracket records
  pub later_length : (k : ℕ) → length_at (p ++ q) (length p + k) ≡ length_at q k
  later_length k = ap (λ (i : ℕ). get_or (p ++ q) i 0) (add_assoc (length p) k 1) ∙ get_or-append-add p q (k + 1) 0

  later_close : (k : ℕ) → close_at (p ++ q) (length p + k) ≡ length p + close_at q k
  later_close k = omega (arith, later_length k)

  good_second : 4 < length q → (k : ℕ) → good (p ++ q) (length p + k) ≡ good q k
  good_second long k =
      good_is (p ++ q) (length p + k)
      ∙ tested_same
      (lt-ltb 4 (length (p ++ q)) (omega (arith, length-append p q)) ∙ sym (lt-ltb 4 (length q) long))
      (ap (λ (c : ℕ). ltb c (length (p ++ q))) (later_close k)
      ∙ ap (ltb (length p + close_at q k)) (length-append p q)
      ∙ ltb_past (length p) (close_at q k) (length q))
      (get_or-append-add p q k 0)
      (ap (λ (c : ℕ). get_or (p ++ q) c 0) (later_close k) ∙ get_or-append-add p q (close_at q k) 0)
      (later_length k)
      ∙ sym (good_is q k)

  -- the walk over the second: what it comes to there is `f` of what it comes to alone
  module _ {A B : Type 0} (each : ℕ → A → A) (end : A) (both : ℕ → B → B) (f : A → B) (long : 4 < length q)
      (same : (k : ℕ) (a : A) → both (length p + k) (f a) ≡ f (each k a)) where
    second_walk : (n k : ℕ) → walk both (f end) (p ++ q) n (length p + k) ≡ f (walk each end q n k)
    unfolding walk
    second_walk zero k = refl
    second_walk (suc n) k =
        either (good q k)
        (λ (t : good q k ≡ true).
        simp (good_second long k ∙ t, t)
        (ap (λ (to : ℕ). both (length p + k) (walk both (f end) (p ++ q) n to)) {x = next_at (p ++ q) (length p + k)} {y = length p + next_at q k} (omega (arith, later_length k))
        ∙ ap (both (length p + k)) (second_walk n (next_at q k))
        ∙ same k (walk each end q n (next_at q k))))
        (λ (t : good q k ≡ false). simp (good_second long k ∙ t, t))

    pub second : walk both (f end) (p ++ q) (length (p ++ q)) (length p) ≡ f (walk each end q (length q) 0)
    second =
        enough both (f end) (p ++ q) (length (p ++ q)) (length q) (length p) (omega arith) (omega (arith, length-append p q))
        ∙ ap (walk both (f end) (p ++ q) (length q)) (sym (add-zero (length p)))
        ∙ second_walk (length q) 0

  -- the walk over the first, and what comes after it: the walk over both from the place where the first's good records stop
  abbrev size : ℕ → ℕ → ℕ
  size here rest = size_at p here + rest

  module _ {A : Type 0} (each both : ℕ → A → A) (end : A)
      (same : (here : ℕ) → good p here ≡ true → (a : A) → both here a ≡ each here a) where
    abbrev from : ℕ → A
    from at = walk both end (p ++ q) (length (p ++ q)) at

    first_walk : (n at : ℕ) → from at ≡ walk each (from (walk size 0 p n at + at)) p n at
    unfolding walk
    first_walk zero at = ap from (omega arith)
    first_walk (suc n) at =
        either (good p at)
        (λ (t : good p at ≡ true).
        let rest = walk size 0 p n (next_at p at) in
        let more : walk size 0 p (suc n) at ≡ size at rest = simp t in
        unrolled both end (p ++ q) at
        ∙ simp (good_first at t, t)
        (ap (λ (l : ℕ). both at (from (at + 1 + l + 1))) (same_length at t)
        ∙ ap (both at) (first_walk n (next_at p at))
        ∙ ap (λ (k : ℕ). both at (walk each (from k) p n (next_at p at))) {x = rest + next_at p at} {y = size at rest + at} (omega arith)
        ∙ same at t _
        ∙ ap (λ (k : ℕ). each at (walk each (from (k + at)) p n (next_at p at))) (sym more)))
        (λ (t : good p at ≡ false). simp t (ap from {x = at} {y = 0 + at} (omega arith)))

    pub first : from 0 ≡ walk each (from (taken p)) p (length p) 0
    unfolding taken
    first = first_walk (length p) 0 ∙ ap (λ (k : ℕ). walk each (from k) p (length p) 0) (add-zero _)
