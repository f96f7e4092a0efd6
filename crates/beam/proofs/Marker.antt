-- For a beam, whose first byte is the marker, the Rust's look at the marker changes nothing: the count is document 01's, an offset counts
-- where the whole pattern fits and matches. Assumes nothing.
use Prim.Native.Nat.{ℕ, zero, suc, ◌+◌, ◌-◌, ◌≤◌, min}
use lib.Dec.{eqb}
use lib.ListN.{take, drop, get_or}
use lib.Seq.{get_or-take}
use mathlib.Core.Bool.{Bool, true, false, ◌&&◌, and-false}
use mathlib.Core.List.{List, [], ◌∷◌}
use mathlib.Core.Path.{◌≡◌, refl, ap, ◌∙◌}
use native.Mathlib.Omega.{arith}
use borrow.Author.Tests.{eq-eqb, ne_eqb, eqb-true}
use Rattle.beam.specs.Beam.{starts, starts_marked, repeats, beam_count}

first_test : (x y : ℕ) (more : Bool) → x ≡ 0x55 → (t : Bool) → eqb x y ≡ t → (eqb y 0x55 && (t && more)) ≡ (t && more)
first_test x y more m true e = let h : x ≡ y = eqb-true x y e in simp (eq-eqb y 0x55 (omega arith))
first_test x y more m false e = and-false (eqb y 0x55)

pub marker_implied : (pattern rest : List ℕ) → get_or pattern 0 0 ≡ 0x55 → starts_marked pattern rest ≡ starts pattern rest
unfolding starts
marker_implied [] rest m = absurd (omega arith)
marker_implied (x ∷ pattern) [] m = refl
marker_implied (x ∷ pattern) (y ∷ rest) m = first_test x y (starts pattern rest) m (eqb x y) refl

-- two tests that agree count the same
pub same_tests : (f g : List ℕ → Bool) → ((xs : List ℕ) → f xs ≡ g xs) → (size left : ℕ) (xs : List ℕ)
    → repeats f size left xs ≡ repeats g size left xs
unfolding repeats
same_tests f g e size left [] = refl
same_tests f g e size (suc left) (x ∷ xs) = same_tests f g e size left xs
same_tests f g e size zero (x ∷ xs) =
    rw (e (x ∷ xs), same_tests f g e size (size - 1) xs, same_tests f g e size 0 xs)

pub beam_count_plain : (size : ℕ) (bytes : List ℕ) → get_or bytes 0 0 ≡ 0x55 → 1 ≤ size
    → beam_count size bytes ≡ min 65535 (1 + repeats (starts (take size bytes)) size 0 (drop size bytes))
unfolding beam_count
beam_count_plain size bytes m some =
    let pattern = take size bytes in
    let same : (xs : List ℕ) → starts_marked pattern xs ≡ starts pattern xs
    = λ (xs : List ℕ). marker_implied pattern xs (get_or-take size bytes 0 0 (omega arith) ∙ m) in
    simp (ne_eqb size 0 (omega arith))
    (ap (λ (n : ℕ). min 65535 (1 + n)) (same_tests (starts_marked pattern) (starts pattern) same size 0 (drop size bytes)))
