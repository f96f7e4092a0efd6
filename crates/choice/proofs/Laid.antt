-- Laws on bytes laid into a list from a place on (`sets` of lib.Seq): one run after another, one byte more of a run, and a run from the start. Assumes nothing.
use Prim.Native.Nat.{ℕ, suc, ◌+◌, ◌≤◌, ◌<◌}
use lib.ListN.{length, get_or, set, take, drop}
use lib.Seq.{sets, sets-eq, take-suc, length-take-le}
use mathlib.Core.List.{List, [], ◌∷◌, ◌++◌}
use mathlib.Core.Path.{◌≡◌, sym, ap, ◌∙◌}
use native.Mathlib.Numerals.{add-one}
use native.Mathlib.Omega.{arith}

pub sets_append : (a b l : List ℕ) (i : ℕ) → sets l i (a ++ b) ≡ sets (sets l i a) (i + length a) b
sets_append [] b l i = ap (λ (k : ℕ). sets l k b) (omega arith)
sets_append (x ∷ a) b l i = sets_append a b (set l i x) (suc i) ∙ ap (λ (k : ℕ). sets (sets (set l i x) (suc i) a) k b) (omega arith)

pub lay_turn : (bytes l : List ℕ) (at i : ℕ) → i < length bytes → set (sets l at (take i bytes)) (at + i) (get_or bytes i 0) ≡ sets l at (take (i + 1) bytes)
lay_turn bytes l at i h =
    let n : at + length (take i bytes) ≡ at + i = omega (arith, length-take-le i bytes (omega arith)) in
    sym
    (rw (add-one i) (ap (sets l at) (take-suc bytes i 0 h) ∙ sets_append (take i bytes) (get_or bytes i 0 ∷ []) l at
    ∙ ap (λ (k : ℕ). set (sets l at (take i bytes)) k (get_or bytes i 0)) n))

pub laid_first : (bytes l : List ℕ) → length bytes ≤ length l → sets l 0 bytes ≡ bytes ++ drop (length bytes) l
laid_first bytes l h = let n : 0 + length bytes ≡ length bytes = omega arith in sets-eq bytes l 0 (omega arith) ∙ ap (λ (k : ℕ). bytes ++ drop k l) n
