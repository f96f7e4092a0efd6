-- Records at given places, each where the last ended, over any trace that has no others: which premises such a trace meets. Assumes nothing.
use Prim.Native.Nat.{ℕ, suc, ◌+◌}
use borrow.Author.Tests.{eq-eqb}
use lib.Dec.{eqb}
use lib.ListN.{length}
use lib.Signed.{◌≤ℤ◌}
use mathlib.Core.Bool.{Bool, true, false, ◌||◌, true≢false, or-true}
use mathlib.Core.List.Memᴰ
use mathlib.Core.List.{List, [], ◌∷◌, Memᴰ}
use mathlib.Core.Logic.{⊎_elim}
use Rattle.std.specs.Prelude.{Option, None, Some}
use mathlib.Core.Path.{◌≡◌, refl, sym, subst, ◌∙◌}
use native.Mathlib.Omega.{arith}
use Rattle.resync.proofs.Chain.{boundary_record}
use Rattle.seam.specs.Seam.{Unbroken, ends, more}
use Rattle.span.specs.Met.{Trace}
use Rattle.plain.specs.Plain.{Begins}
use Rattle.plain.specs.Premises.{NeverDecrease, NoOtherBoundary}

-- seven more than each
abbrev pub sevens : List ℕ → List ℕ
sevens [] = []
sevens (x ∷ l) = (x + 7) ∷ sevens l

pub seven_less : (at : ℕ) (l : List ℕ) → Memᴰ (at + 7) (sevens l) → Memᴰ at l
seven_less at [] a = absurd (Memᴰ.not-nil a)
seven_less at (x ∷ l) a =
    ⊎_elim (λ (e : at + 7 ≡ x + 7). Memᴰ.head (omega arith)) (λ b. Memᴰ.tail (seven_less at l b)) (Memᴰ.cases_cons a)

-- what is among given places, computed
abbrev among : ℕ → List ℕ → Bool
among k [] = false
among k (x ∷ l) = eqb k x || among k l

is_among : {k : ℕ} {l : List ℕ} → Memᴰ k l → among k l ≡ true
is_among {k} (Memᴰ.head {x} e) = simp (eq-eqb k x e)
is_among (Memᴰ.tail a) = simp (is_among a, or-true)

pub not_among : (k : ℕ) (l : List ℕ) → among k l ≡ false → Memᴰ k l → ⊥
not_among k l e a = true≢false (sym (is_among a) ∙ e)

-- one of three
pub of_three : {X : Type 0} (at a b c : ℕ) → Memᴰ at (a ∷ b ∷ c ∷ []) → (at ≡ a → X) → (at ≡ b → X) → (at ≡ c → X) → X
of_three at a b c in_all one two three = ⊎_elim one (λ x. ⊎_elim two (λ y. ⊎_elim three (λ z. absurd (Memᴰ.not-nil z)) (Memᴰ.cases_cons y)) (Memᴰ.cases_cons x)) (Memᴰ.cases_cons in_all)

module _ (t : Trace) where
  -- records at these places lead from the first of them to an end
  pub data Line : ℕ → List ℕ → ℕ → Type 0 where
    end : {at : ℕ} → Line at [] at
    then : {at m to : ℕ} {l : List ℕ} → t.next at ≡ Some m → Line m l to → Line at (at ∷ l) to

  pub leads : {at to : ℕ} {l : List ℕ} → Line at l to → Unbroken t.next to at (length l)
  leads end = ends
  leads (then e r) = more e (leads r)

  -- one of them is one of the records from the first on
  pub begins_in : {at to place m : ℕ} {l : List ℕ} → Line at l to → Memᴰ place l → t.next place ≡ Some m → Begins t at place
  begins_in end a f = absurd (Memᴰ.not-nil a)
  begins_in {place = place} {m = m} (then {at} e r) a f =
      ⊎_elim
      (λ (same : place ≡ at). record { before = 0; leads = subst (λ (x : ℕ). Unbroken t.next x at 0) (sym same) ends; end = m; valid = f })
      (λ b.
      let rest : _ = begins_in r b f in
      record { before = suc rest.before; leads = more e rest.leads; end = rest.end; valid = rest.valid })
      (Memᴰ.cases_cons a)

  -- times that do not decrease, from each of them to the next
  pub data Rising : List ℕ → Type 0 where
    last : {at : ℕ} → Rising (at ∷ [])
    step : {a b : ℕ} {l : List ℕ} → t.millis a ≤ℤ t.millis b → Rising (b ∷ l) → Rising (a ∷ b ∷ l)

  rises :
      {at to place after m : ℕ} {l : List ℕ} → Line at l to → t.next to ≡ None → Rising l → Memᴰ place l → t.next place ≡ Some after → t.next after ≡ Some m
      → t.millis place ≤ℤ t.millis after
  rises end stops u a e f = absurd (Memᴰ.not-nil a)
  rises {place = place} {after = after} (then {at} {m = p} g end) stops u a e f =
      ⊎_elim (λ (same : place ≡ at). absurd (let z : ◌≡◌ {A = ℕ} 0 1 = cc in omega arith)) (λ b. absurd (Memᴰ.not-nil b)) (Memᴰ.cases_cons a)
  rises {place = place} {after = after} (then {at} {m = p} g (then h r)) stops (step le u) a e f =
      ⊎_elim
      (λ (same : place ≡ at). let next : after ≡ p = cc in rw (same, next) le)
      (λ b. rises (then h r) stops u b e f) (Memᴰ.cases_cons a)

  -- a trace that has no others meets two of the premises
  module _ {first to : ℕ} {l : List ℕ} (line : Line first l to) (only : (at m : ℕ) → t.next at ≡ Some m → Memᴰ at l) where
    none_by : (at : ℕ) → among at l ≡ false → (o : Option ℕ) → t.next at ≡ o → t.next at ≡ None
    none_by at e None f = f
    none_by at e (Some m) f = absurd (not_among at l e (only at m f))

    pub no_record_at : (at : ℕ) → among at l ≡ false → t.next at ≡ None
    no_record_at at e = none_by at e (t.next at) refl

    pub no_others : NoOtherBoundary t first
    no_others at from is = let e : _ = boundary_record t.next t.size at is in begins_in line (only at e.0 e.1) e.1

    pub in_order : t.next to ≡ None → Rising l → NeverDecrease t first
    in_order stops rising at after b e a = rises line stops rising (only at after e) e a.valid
