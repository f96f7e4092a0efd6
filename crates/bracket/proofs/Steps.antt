-- What the tests of `good_length` say of a bracket record's length, and what that length says of the next body. `len` is the length as the
-- code has it. Assumes nothing.
use Prim.Native.Nat.{ℕ, ◌+◌, ◌-◌, ◌<◌, ◌≤◌}
use lib.ListN.{length, get_or}
use lib.Seq.{get_or-drop}
use mathlib.Core.Bool.{Bool, true, false, cond, and-false}
use mathlib.Core.List.{List}
use mathlib.Core.Path.{◌≡◌, refl, sym, ap, ◌∙◌}
use native.Mathlib.Omega.{arith}
use native.Mathlib.Nat.{add-zero}
use borrow.Author.Tests.{lt-ltb, le-ltb, ne_eqb}
use Rattle.std.specs.Prelude.{Option, None, Some}
use Rattle.std.specs.List.{slice_range}
use Rattle.std.proofs.lemmas.List.{take_rest}
use Rattle.std.proofs.lemmas.Bool.Decides.{nat_tests}
use Rattle.bracket.specs.Bracket.{length_at, close_at, next_at, good, good_length, walk, step_at, next_record}
use Rattle.bracket.specs.declared.Body.{Body}
use Rattle.bracket.proofs.Walks.{too_short, past, is_good, unrolled}

-- a good bracket record's length is above 0, and the tests that are not met say that there is none
module _ (p : List ℕ) (at : ℕ) where
  some_length : good p at ≡ true → 0 < length_at p at
  unfolding good
  some_length g = grind (arith, nat_tests)

  not_opened : (get_or p at 0 ≡ 0x5B → ⊥) → good p at ≡ false
  unfolding good
  not_opened h = simp (ne_eqb (get_or p at 0) 0x5B h, and-false)

  not_closed : (get_or p (close_at p at) 0 ≡ 0x5D → ⊥) → good p at ≡ false
  unfolding good
  not_closed h = simp (ne_eqb (get_or p (close_at p at) 0) 0x5D h, and-false)

-- what each test of `good_length` says, where `rest` is the payload from the place on
module _ (p : List ℕ) (at : ℕ) where
  bad : good p at ≡ false → None ≡ good_length p at
  bad h = sym (ap (λ (b : Bool). cond b (Some (length_at p at)) None) h)

  pub none : length p ≤ 4 → None ≡ good_length p at
  none h = bad (too_short p at h)

  pub beyond : length p ≤ at + 1 → None ≡ good_length p at
  beyond h = bad (past p at (omega arith))

  module _ (rest : List ℕ) (r : rest ≡ slice_range p at (length p)) where
    read : (k : ℕ) → get_or rest k 0 ≡ get_or p (at + k) 0
    read k = rw (r, take_rest p at) (get_or-drop at p k 0)

    module _ (len : ℕ) (e : len ≡ get_or rest 1 0) where
      is_length : len ≡ length_at p at
      is_length = e ∙ read 1

      closing : get_or rest (len + 1) 0 ≡ get_or p (close_at p at) 0
      closing = let k : at + (len + 1) ≡ close_at p at = omega (arith, is_length) in read (len + 1) ∙ ap (λ (n : ℕ). get_or p n 0) k

      pub overlong : length p ≤ at + 1 + len → None ≡ good_length p at
      overlong h = bad (past p at (omega (arith, is_length)))

      pub unopened : (get_or rest 0 0 ≡ 0x5B → ⊥) → None ≡ good_length p at
      unopened h = bad (not_opened p at (λ (o : get_or p at 0 ≡ 0x5B). h (read 0 ∙ simp add-zero o)))

      pub unclosed : (get_or rest (len + 1) 0 ≡ 0x5D → ⊥) → None ≡ good_length p at
      unclosed h = bad (not_closed p at (λ (c : get_or p (close_at p at) 0 ≡ 0x5D). h (closing ∙ c)))

      pub whole : 4 < length p → at + 1 + len < length p → get_or rest 0 0 ≡ 0x5B → get_or rest (len + 1) 0 ≡ 0x5D → Some len ≡ good_length p at
      whole long fits opened closed =
          let good_here = is_good p at long (omega (arith, is_length)) (simp add-zero at (sym (read 0)) ∙ opened) (sym closing ∙ closed) in
          ap Some is_length ∙ sym (ap (λ (b : Bool). cond b (Some (length_at p at)) None) good_here)

module _ (p : List ℕ) (at len : ℕ) (e : Some len ≡ good_length p at) where
  one_by : (b : Bool) → good p at ≡ b → Some len ≡ cond b (Some (length_at p at)) None → (good p at ≡ true) × (len ≡ length_at p at)
  one_by true g z = (g, cc)
  one_by false g z = absurd cc

  one_good : (good p at ≡ true) × (len ≡ length_at p at)
  one_good = one_by (good p at) refl e

  pub found : 2 ≤ len → Some (record { at = at + 3; len = len - 2; next = at + len + 2 }) ≡ next_record p at
  unfolding next_record
  found h =
      let next : at + len + 2 ≡ next_at p at = omega (arith, one_good.1) in
      rw (next, one_good.1) (sym (unrolled (step_at p) None p at ∙ simp (one_good.0, lt-ltb 1 (length_at p at) (omega (arith, one_good.1)))))

  pub onward : len < 2 → next_record p at ≡ next_record p (at + 3)
  unfolding next_record
  onward few =
      let some = some_length p at one_good.0 in
      let third : next_at p at ≡ at + 3 = omega (arith, one_good.1) in
      let rest : Option Body = walk (step_at p) None p (length p) (next_at p at) in
      let turn : cond (good p at) (step_at p at rest) None ≡ rest = simp (one_good.0, le-ltb 1 (length_at p at) (omega (arith, one_good.1))) in
      unrolled (step_at p) None p at ∙ turn ∙ ap (λ (k : ℕ). walk (step_at p) None p (length p) k) third

module _ (p : List ℕ) (at : ℕ) where
  not_by : (b : Bool) → good p at ≡ b → None ≡ cond b (Some (length_at p at)) None → good p at ≡ false
  not_by true g z = absurd cc
  not_by false g z = g

  pub stopped : None ≡ good_length p at → None ≡ next_record p at
  unfolding next_record
  stopped z = sym (unrolled (step_at p) None p at ∙ simp (not_by (good p at) refl z))

pub ruleset lengths = (none, beyond, overlong, unopened, unclosed, whole)

pub ruleset turns = (found, onward, stopped)
