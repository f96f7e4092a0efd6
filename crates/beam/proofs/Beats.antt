-- Counting a pattern's repeats in what is left of the data: what one turn of `beam_count` does to the count. Assumes nothing.
use Prim.Native.Nat.{ℕ, zero, suc, ◌+◌, ◌-◌, ◌<◌, ◌≤◌, min}
use lib.Dec.{eqb}
use lib.ListN.{length, take, drop, get_or, drop_of_length-le}
use mathlib.Core.Bool.{Bool, true, false, ◌&&◌, and-false}
use mathlib.Core.List.{List, [], ◌∷◌}
use mathlib.Core.Path.{◌≡◌, refl, sym, ap}
use native.Mathlib.Omega.{arith}
use borrow.Author.Tests.{eq-eqb, ne_eqb}
use Rattle.std.specs.List.{starts_with}
use Rattle.std.proofs.lemmas.List.{take_rest}
use Rattle.beam.specs.Beam.{starts, starts_marked, repeats, beam_count}

-- std's test is the definition's
pub same_start : (pattern xs : List ℕ) → starts_with eqb xs pattern ≡ starts pattern xs
unfolding starts
same_start [] [] = refl
same_start [] (y ∷ xs) = refl
same_start (x ∷ pattern) [] = refl
same_start (x ∷ pattern) (y ∷ xs) = ap (λ (b : Bool). eqb x y && b) (same_start pattern xs)

-- a pattern that is longer than what is left does not match
too_long : (pattern xs : List ℕ) → length xs < length pattern → starts pattern xs ≡ false
unfolding starts
too_long [] xs h = absurd (omega arith)
too_long (x ∷ pattern) [] h = refl
too_long (x ∷ pattern) (y ∷ xs) h = simp (too_long pattern xs (omega arith), and-false)

-- where less is left than the pattern, nothing more is counted
pub no_room : (pattern : List ℕ) (size : ℕ) (xs : List ℕ) → length xs < length pattern → repeats (starts_marked pattern) size 0 xs ≡ 0
unfolding repeats
no_room pattern size [] h = refl
no_room pattern size (x ∷ xs) h = simp (too_long pattern (x ∷ xs) h, and-false) (no_room pattern size xs (omega arith))

-- the bytes of the last match that are still to be passed are dropped
dropped : (matches : List ℕ → Bool) (size left : ℕ) (xs : List ℕ) → repeats matches size left xs ≡ repeats matches size 0 (drop left xs)
unfolding repeats
dropped matches size zero xs = refl
dropped matches size (suc left) [] = refl
dropped matches size (suc left) (x ∷ xs) = dropped matches size left xs

module _ (matches : List ℕ → Bool) (x : ℕ) (xs : List ℕ) where
  hit : (size : ℕ) → 1 ≤ size → matches (x ∷ xs) ≡ true → repeats matches size 0 (x ∷ xs) ≡ 1 + repeats matches size 0 (drop size (x ∷ xs))
  unfolding repeats
  hit zero some e = absurd (omega arith)
  hit (suc size) some e = let k : suc size - 1 ≡ size = omega arith in rw (e, k) (ap (λ (n : ℕ). 1 + n) (dropped matches (suc size) size xs))

  miss : (size : ℕ) → matches (x ∷ xs) ≡ false → repeats matches size 0 (x ∷ xs) ≡ repeats matches size 0 xs
  unfolding repeats
  miss size e = rw e

-- the whole count, where so many are counted already and so much is left
abbrev pub total : List ℕ → ℕ → ℕ → List ℕ → ℕ
total pattern size count rest = min 65535 (count + repeats (starts_marked pattern) size 0 rest)

module _ (d : List ℕ) (size : ℕ) where
  pub empty_pattern : size ≡ 0 → 1 ≡ beam_count size d
  unfolding beam_count
  empty_pattern e = simp (eq-eqb size 0 e)

  pub cut : (size ≡ 0 → ⊥) → length d < size → 1 ≡ beam_count size d
  unfolding beam_count repeats
  cut h l = simp (ne_eqb size 0 h, drop_of_length-le d {i = size} (omega arith))

  pub begun : (size ≡ 0 → ⊥) → (pattern rest : List ℕ) → pattern ≡ take size d → rest ≡ drop size d → total pattern size 1 rest ≡ beam_count size d
  unfolding beam_count
  begun h pattern rest p r = simp (ne_eqb size 0 h, p, r)

module _ (pattern : List ℕ) where
  -- a repeat is counted, and its bytes are passed
  pub one_hit : (size count : ℕ) (rest : List ℕ) → 1 ≤ size → 1 ≤ length rest → get_or rest 0 0 ≡ 0x55 → true ≡ starts_with eqb rest pattern
      → total pattern size (min (count + 1) 65535) (take (length rest - size) (drop size rest)) ≡ total pattern size count rest
  one_hit size count [] some left m e = absurd (omega arith)
  one_hit size count (x ∷ xs) some left m e =
      let one = hit (starts_marked pattern) x xs size some (simp (eq-eqb x 0x55 m, ← same_start pattern (x ∷ xs), ← e)) in
      rw (take_rest (x ∷ xs) size) (omega (arith, one))

  -- any other byte is passed
  pub one_miss : (size count : ℕ) (rest : List ℕ) → 1 ≤ length rest → starts_marked pattern rest ≡ false
      → total pattern size count (take (length rest - 1) (drop 1 rest)) ≡ total pattern size count rest
  one_miss size count [] left e = absurd (omega arith)
  one_miss size count (x ∷ xs) left e = rw (take_rest (x ∷ xs) 1) (ap (λ (n : ℕ). min 65535 (count + n)) (sym (miss (starts_marked pattern) x xs size e)))

  pub unmarked : (rest : List ℕ) → (get_or rest 0 0 ≡ 0x55 → ⊥) → starts_marked pattern rest ≡ false
  unmarked rest m = simp (ne_eqb (get_or rest 0 0) 0x55 m)

  pub other : (rest : List ℕ) → false ≡ starts_with eqb rest pattern → starts_marked pattern rest ≡ false
  other rest e = simp (← same_start pattern rest, ← e, and-false)

  pub ended : (size count : ℕ) (rest : List ℕ) → length rest < size → size ≤ length pattern → count ≤ 65535 → count ≡ total pattern size count rest
  ended size count rest e l h = let none = no_room pattern size rest (omega arith) in omega (arith, none)

-- what a turn does, and the ways out
pub ruleset turns = (empty_pattern, cut, begun, one_hit, one_miss, unmarked, other, ended)
