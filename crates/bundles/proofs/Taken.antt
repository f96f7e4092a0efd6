-- A payload that the splitter takes to its last byte is made of bracket records. Assumes nothing.
use Prim.Native.Nat.{ℕ, zero, suc, ◌+◌, ◌-◌, ◌<◌}
use lib.ListN.{length, get_or, take, drop, length-drop, take-append-drop}
use lib.Seq.{drop-length, drop-drop, drop-cons, length-take-le}
use mathlib.Core.Bool.{true, false}
use mathlib.Core.List.{List, [], ◌∷◌, ◌++◌, append_assoc, flat_map}
use mathlib.Core.Path.{◌≡◌, refl, sym, ap, ◌∙◌}
use native.Mathlib.Numerals.{add-one}
use native.Mathlib.Omega.{arith}
use Rattle.std.proofs.lemmas.Bool.Decides.{nat_tests}
use Rattle.choice.proofs.Choice.{either}
use Rattle.bracket.specs.Bracket.{length_at, close_at, next_at, good, walk}
use Rattle.bracket.proofs.Splitting.{good_fits}
use Rattle.bundles.specs.Bundles.{bracket_of, Consumed, size_at, taken}

-- what a good bracket record is made of, and that it is
module _ (p : List ℕ) where
  abbrev pub inner_at : ℕ → List ℕ
  inner_at at = take (length_at p at - 1) (drop (at + 2) p)

  abbrev inners_from : ℕ → ℕ → List (List ℕ)
  inners_from n at = walk (λ (here : ℕ) (rest : List (List ℕ)). inner_at here ∷ rest) [] p n at

  module _ (at : ℕ) (g : good p at ≡ true) where
    pub opened : get_or p at 0 ≡ 0x5B
    unfolding good
    opened = grind (arith, nat_tests)

    pub closed : get_or p (close_at p at) 0 ≡ 0x5D
    unfolding good
    closed = grind (arith, nat_tests)

    pub some : 0 < length_at p at
    unfolding good
    some = grind (arith, nat_tests)

    pub inner_size : length (inner_at at) ≡ length_at p at - 1
    inner_size = length-take-le (length_at p at - 1) (drop (at + 2) p) (omega (arith, length-drop (at + 2) p, good_fits p at g, some))

    -- from 0x5D on, and from the skipped byte on
    from_close : drop (length_at p at - 1) (drop (at + 2) p) ≡ 0x5D ∷ drop (next_at p at) p
    from_close =
        drop-drop (length_at p at - 1) (at + 2) p
        ∙ ap (λ (k : ℕ). drop k p) {x = at + 2 + (length_at p at - 1)} {y = close_at p at} (omega (arith, some))
        ∙ drop-cons p (close_at p at) 0 (good_fits p at g)
        ∙ rw (closed, sym (add-one (close_at p at))) refl

    pub one_record : drop at p ≡ bracket_of (inner_at at) ++ drop (next_at p at) p
    unfolding bracket_of
    one_record =
        drop-cons p at 0 (omega (arith, good_fits p at g))
        ∙ ap (λ (l : List ℕ). get_or p at 0 ∷ l)
        (ap (λ (k : ℕ). drop k p) {x = suc at} {y = at + 1} (omega arith)
        ∙ drop-cons p (at + 1) 0 (omega (arith, good_fits p at g, some))
        ∙ ap (λ (l : List ℕ). length_at p at ∷ l)
        (ap (λ (k : ℕ). drop k p) {x = suc (at + 1)} {y = at + 2} (omega arith)
        ∙ sym (take-append-drop (length_at p at - 1) (drop (at + 2) p))
        ∙ ap (λ (l : List ℕ). inner_at at ++ l) from_close
        ∙ sym (append_assoc (inner_at at) (0x5D ∷ []) (drop (next_at p at) p))))
        ∙ ap (λ (x : ℕ). x ∷ (length_at p at ∷ ((inner_at at ++ (0x5D ∷ [])) ++ drop (next_at p at) p))) opened
        ∙ ap (λ (x : ℕ). 0x5B ∷ (x ∷ ((inner_at at ++ (0x5D ∷ [])) ++ drop (next_at p at) p))) {x = length_at p at} {y = length (inner_at at) + 1} (omega (arith, inner_size, some))

  made_back : (n at : ℕ) → walk (λ (here rest : ℕ). size_at p here + rest) 0 p n at + at ≡ length p → drop at p ≡ flat_map bracket_of (inners_from n at)
  unfolding walk flat_map
  made_back zero at h = ap (λ (k : ℕ). drop k p) {x = at} {y = length p} (omega arith) ∙ drop-length p
  made_back (suc n) at h =
      either (good p at)
      (λ (t : good p at ≡ true).
      let k : size_at p at + walk (λ (here rest : ℕ). size_at p here + rest) 0 p n (next_at p at) + at ≡ length p = simp t at h in
      simp t (one_record at t ∙ ap (λ (l : List ℕ). bracket_of (inner_at at) ++ l) (made_back n (next_at p at) (omega arith))))
      (λ (t : good p at ≡ false).
      let k : 0 + at ≡ length p = simp t at h in
      simp t (ap (λ (i : ℕ). drop i p) {x = at} {y = length p} (omega arith) ∙ drop-length p))

  -- where the splitter takes all of a payload, it is made of bracket records
  pub all_taken : taken p ≡ length p → Consumed p
  unfolding taken
  all_taken h = record { inners = inners_from (length p) 0; made = made_back (length p) 0 (omega arith) }
