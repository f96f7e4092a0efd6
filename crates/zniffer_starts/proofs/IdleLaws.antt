-- How many bytes at the start an idle parser ignores, from a block of which no byte starts anything and from the first byte that does. Assumes nothing.
use Rattle.std.proofs.Common.{ℕ, drop-drop, subst, zero, suc, ◌≡◌, ◌*◌, length-drop, ◌+◌, ◌≤◌, true, false, not, ◌&&◌, List, [], ◌∷◌, ◌++◌, length, ltb, take, drop, fold, refl, sym, ◌∙◌, add_comm, length-take-le, arith}
use Rattle.std.specs.Prelude.{position, unwrap_or}
use borrow.Author.Tests.{ltb-false}
use Rattle.std.proofs.lemmas.List.Sums.{prefix_len-le-length}
use Rattle.std.specs.List.{position_or_len, prefix_len}
use Rattle.std.proofs.lemmas.List.{take-append-drop}
use Rattle.std.proofs.lemmas.List.Recursion.{is_position_or_len}
use Rattle.choice.proofs.Choice.{either}
use Rattle.std.specs.Simd.{first_chunks}
use Rattle.zniffer_starts.specs.Idle.{starts, all_quiet, idle_of}

none_after : (xs : List ℕ) → fold (λ quiet b. quiet && not (starts b)) false xs ≡ false
none_after [] = refl
none_after (x ∷ xs) = none_after xs

-- a quiet stretch is ignored, and what follows it goes on
quiet_ignored : (xs ys : List ℕ) → all_quiet xs ≡ true → idle_of (xs ++ ys) ≡ length xs + idle_of ys
unfolding idle_of
quiet_ignored [] ys q = omega arith
quiet_ignored (x ∷ xs) ys q =
    either (starts x)
    (λ yes'. let z : false ≡ true = sym (none_after xs) ∙ (rw yes' at q) in cc)
    (λ no'. rw no' (omega (arith, quiet_ignored xs ys (rw no' at q))))

block_ignored : (s : List ℕ) → 32 ≤ length s → all_quiet (take 32 s) ≡ true → idle_of s ≡ 32 + idle_of (drop 32 s)
block_ignored s l q = rw length-take-le at (rw take-append-drop at (quiet_ignored (take 32 s) (drop 32 s) q))

-- a place that is passed to: all before it is ignored
pub record PassedTo (s : List ℕ) (at : ℕ) : Type 0 where
  pub within : at ≤ length s
  pub goes_on : idle_of s ≡ at + idle_of (drop at s)

start : (s : List ℕ) → PassedTo s 0
start s = record { within = omega arith; goes_on = omega arith }

further : (s : List ℕ) (k : ℕ) → 32 ≤ length s → all_quiet (take 32 s) ≡ true → PassedTo (drop 32 s) k → PassedTo s (32 + k)
further s k l q rest =
    let on = block_ignored s l q in
    record { within = omega (arith, length-drop 32 s, rest.within); goes_on = omega (arith, on, rw drop-drop at rest.goes_on) }

-- of n blocks that are there, the quiet ones at the start
pub blocks_passed : (n : ℕ) (s : List ℕ) → n * 32 ≤ length s → PassedTo s (prefix_len all_quiet (first_chunks 32 n s) * 32)
blocks_passed zero s l = start s
blocks_passed (suc n) s l =
    either (all_quiet (take 32 s))
    (λ yes'.
    let k = prefix_len all_quiet (first_chunks 32 n (drop 32 s)) in let far : 32 + k * 32 ≡ (1 + k) * 32 = omega arith in
    rw yes' (subst (PassedTo s) far (further s (k * 32) (omega (arith, l)) yes' (blocks_passed n (drop 32 s) (rw length-drop (omega (arith, l)))))))
    (λ no'. rw no' (start s))

-- the first byte that starts something
idle_position : (s : List ℕ) → idle_of s ≡ position_or_len starts s
unfolding idle_of
idle_position = is_position_or_len idle_of starts refl (λ x xs. rw (add_comm (idle_of xs) 1))

pub first_start : (s : List ℕ) (n : ℕ) → n ≡ unwrap_or (position starts s) (length s) → n ≡ idle_of s
first_start s n e =
    let i = idle_position s in let within : position_or_len starts s ≤ length s = prefix_len-le-length (λ b. not (starts b)) s in
    either (ltb (position_or_len starts s) (length s))
    (λ yes'. e ∙ rw yes' (sym i))
    (λ no'. e ∙ rw no' (omega (arith, i, ltb-false _ _ no', within)))
