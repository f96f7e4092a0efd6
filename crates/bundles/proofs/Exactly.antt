-- That the first payload is consumed to its last byte is needed of every payload: where no second payload loses anything, it is. Assumes nothing.
use Prim.Native.Nat.{ℕ, zero, suc, ◌+◌, ◌-◌, ◌<◌, ◌≤◌}
use lib.ListN.{length, get_or, length-append, get_or-append}
use lib.Seq.{get_or-append-add}
use mathlib.Core.Bool.{true, false, true≢false}
use mathlib.Core.List.{List, [], ◌∷◌, ◌++◌, append_cancel_left, nil≢cons, map}
use mathlib.Core.Path.{◌≡◌, refl, sym, ap, ◌∙◌}
use native.Mathlib.Nat.{add-zero}
use native.Mathlib.Decide.{dec_le}
use native.Mathlib.Omega.{arith}
use Rattle.choice.proofs.Choice.{either}
use Rattle.bracket.specs.Bracket.{length_at, close_at, next_at, good, Piece, body_at, walk, bodies_from}
use Rattle.bracket.proofs.Walks.{past, is_good, unrolled}
use Rattle.bracket.proofs.Splitting.{good_fits}
use Rattle.bundles.specs.Bundles.{Consumed, size_at, taken, bytes_of, contents, Kept}
use Rattle.bundles.specs.Examples.{one, other}
use Rattle.bundles.proofs.Taken.{opened, closed, all_taken}
use Rattle.bundles.proofs.Split.{contents_on}

-- the splitter stops inside the payload or at its end, where no good bracket record stands
module _ (p : List ℕ) where
  abbrev stop : ℕ → ℕ → ℕ
  stop n at = walk (λ (here rest : ℕ). size_at p here + rest) 0 p n at + at

  stop_on : (n at : ℕ) → good p at ≡ true → stop (suc n) at ≡ stop n (next_at p at)
  unfolding walk
  stop_on n at t = simp t (omega arith)

  stop_here : (n at : ℕ) → good p at ≡ false → stop (suc n) at ≡ at
  unfolding walk
  stop_here n at t = simp t (omega arith)

  stop_inside : (n at : ℕ) → at ≤ length p → stop n at ≤ length p
  unfolding walk
  stop_inside zero at h = omega arith
  stop_inside (suc n) at h =
      either (good p at)
      (λ (t : good p at ≡ true). omega (arith, stop_on n at t, stop_inside n (next_at p at) (omega (arith, good_fits p at t))))
      (λ (t : good p at ≡ false). omega (arith, stop_here n at t))

  stop_bad : (n at : ℕ) → length p ≤ n + at → good p (stop n at) ≡ false
  unfolding walk
  stop_bad zero at h = past p (stop zero at) (omega arith)
  stop_bad (suc n) at h =
      either (good p at)
      (λ (t : good p at ≡ true). ap (good p) (stop_on n at t) ∙ stop_bad n (next_at p at) (omega arith))
      (λ (t : good p at ≡ false). ap (good p) (stop_here n at t) ∙ t)

-- no byte of these two is 0x5D at the same place
no_common : (j : ℕ) → j < 5 → get_or one j 0 ≡ 0x5D → get_or other j 0 ≡ 0x5D → ⊥
no_common zero h e f = omega arith
no_common (suc zero) h e f = omega arith
no_common (suc (suc zero)) h e f = omega arith
no_common (suc (suc (suc zero))) h e f = omega arith
no_common (suc (suc (suc (suc zero)))) h e f = omega arith
no_common (suc (suc (suc (suc (suc j))))) h e f = omega arith

module _ (p : List ℕ) (long : 4 < length p) where
  at : ℕ
  at = taken p

  -- where a second with a body loses nothing, a good bracket record of the two stands where the first's stop
  goes_on_lem : (q x : List ℕ) (l : List (List ℕ)) → contents q ≡ x ∷ l → Kept p q → good (p ++ q) at ≡ true
  unfolding at bodies_from
  goes_on_lem q x l some kept =
      either (good (p ++ q) (taken p)) (λ (t : good (p ++ q) (taken p) ≡ true). t)
      (λ (t : good (p ++ q) (taken p) ≡ false).
      let none : bodies_from (p ++ q) (taken p) ≡ [] =
      unrolled (λ (here : ℕ) (rest : List Piece). body_at (p ++ q) here ++ rest) [] (p ++ q) (taken p) ∙ simp t
      in
      absurd
      (nil≢cons
      (append_cancel_left (contents p) [] (x ∷ l)
      (ap (λ (b : List Piece). contents p ++ map (bytes_of (p ++ q)) b) (sym none) ∙ sym (contents_on p q) ∙ kept ∙ ap (λ (c : List (List ℕ)). contents p ++ c) some))))

  -- that record begins in the first, where it is not good: its 0x5D stands in the second
  module _ (before : at < length p) (q : List ℕ) (t : good (p ++ q) at ≡ true) where
    both_fit : close_at (p ++ q) at < length p + length q
    both_fit = omega (arith, good_fits (p ++ q) at t, length-append p q)

    -- its L stands in the second, too
    late_length : length p ≤ at + 1 → length_at (p ++ q) at ≡ get_or q 0 0
    late_length h =
        ap (λ (i : ℕ). get_or (p ++ q) i 0) {x = at + 1} {y = length p + 0} (omega (arith, before)) ∙ get_or-append-add p q 0 0

    module _ (first : at + 1 < length p) where
      same : length_at (p ++ q) at ≡ length_at p at
      same = get_or-append p q 0 (at + 1) first

      stands : (bad : good p at ≡ false) → (length p ≤ close_at p at) × (close_at p at < length p + length q) × (get_or q (close_at p at - length p) 0 ≡ 0x5D)
      stands bad = by (dec_le (length p) (close_at p at))
        where
          close : get_or (p ++ q) (close_at p at) 0 ≡ 0x5D
          close = ap (λ (n : ℕ). get_or (p ++ q) (at + 1 + n) 0) (sym same) ∙ closed (p ++ q) at t

          by : Dec (length p ≤ close_at p at) → (length p ≤ close_at p at) × (close_at p at < length p + length q) × (get_or q (close_at p at - length p) 0 ≡ 0x5D)
          by (yes h) = (
            h,
            omega (arith, both_fit, same),
            sym (get_or-append-add p q (close_at p at - length p) 0)
                ∙ ap (λ (i : ℕ). get_or (p ++ q) i 0) {x = length p + (close_at p at - length p)} {y = close_at p at} (omega arith)
                ∙ close,
          )
          by (no h) =
              let inside : close_at p at < length p = omega arith in
              let is : good p at ≡ true =
              is_good p at long inside (sym (get_or-append p q 0 at before) ∙ opened (p ++ q) at t) (sym (get_or-append p q 0 (close_at p at) inside) ∙ close)
              in
              absurd (true≢false (sym is ∙ bad))

  stopped : good p at ≡ false
  unfolding at taken
  stopped = ap (good p) (sym (add-zero (taken p))) ∙ stop_bad p (length p) 0 (omega arith)

  at_most : at ≤ length p
  unfolding at taken
  at_most = omega (arith, stop_inside p (length p) 0 (omega arith))

  one_body : contents one ≡ (7 ∷ []) ∷ []
  unfolding contents bodies_from walk good
  one_body = refl

  other_body : contents other ≡ (7 ∷ 7 ∷ []) ∷ []
  unfolding contents bodies_from walk good
  other_body = refl

  module _ (all : (q : List ℕ) → 4 < length q → Kept p q) where
    with_one : good (p ++ one) at ≡ true
    with_one = goes_on_lem one (7 ∷ []) [] one_body (all one (omega arith))

    with_other : good (p ++ other) at ≡ true
    with_other = goes_on_lem other (7 ∷ 7 ∷ []) [] other_body (all other (omega arith))

    -- before the first's end it would need a 0x5D that both seconds have
    never_before : at < length p → ⊥
    never_before before = by (dec_le (length p) (at + 1))
      where
        by : Dec (length p ≤ at + 1) → ⊥
        by (yes h) = omega (arith, both_fit before one with_one, late_length before one with_one h)
        by (no h) =
            let first : at + 1 < length p = omega arith in
            let with_one_there = stands before one with_one first stopped in
            let with_other_there = stands before other with_other first stopped in
            no_common (close_at p at - length p) (omega (arith, with_one_there.0, with_one_there.1)) with_one_there.2 with_other_there.2

    -- the first is consumed to its last byte, if no second payload over 4 bytes loses anything
    pub exactly : Consumed p
    unfolding at
    exactly = all_taken p (by (dec_le (length p) (taken p)))
      where
        by : Dec (length p ≤ taken p) → taken p ≡ length p
        by (yes h) = omega (arith, at_most)
        by (no h) = absurd (never_before (omega arith))
