-- A stepped seek has one answer: from one state, all ways of driving it end with the same and make as many halvings. Assumes nothing.
use Prim.Native.Nat.{ℕ, ◌+◌}
use lib.IntN.{ℤ}
use mathlib.Core.Bool.{true≢false, false≢true}
use Rattle.std.specs.Prelude.{Option, None, Some}
use mathlib.Core.Path.{◌≡◌, refl, sym, ap, subst, ◌∙◌}
use native.Mathlib.Omega.{arith}
use Rattle.seek.proofs.Only.{only_state}
use Rattle.span.specs.Met.{Trace}
use Rattle.seek.specs.Step.{told_state, StepTold, done, halving_of, Driven, ends, goes_on, scans}
use Rattle.seek.specs.declared.SeekState.{SeekState}

-- an answer of one kind is none of another
done_answer : (o : Option ℕ) → (done o).answer ≡ 3
done_answer None = refl
done_answer (Some r) = refl

done_only : (a b : Option ℕ) → done a ≡ done b → a ≡ b
done_only None None e = refl
done_only None (Some r) e = absurd (false≢true (ap (λ (x : StepTold). x.is_found) e))
done_only (Some r) None e = absurd (true≢false (ap (λ (x : StepTold). x.is_found) e))
done_only (Some a) (Some b) e = ap Some (ap (λ (x : StepTold). x.offset) e)

module _ (t : Trace) (target : ℤ) where
  same_state : {a b : SeekState} {found : Option ℕ} {k : ℕ} → told_state a ≡ told_state b → Driven t target b found k → Driven t target a found k
  same_state {a} {b} {found} {k} e d = subst (λ (x : SeekState). Driven t target x found k) (sym (only_state a b e)) d

  pub driven_only : {state : SeekState} {a b : Option ℕ} {j k : ℕ} → Driven t target state a j → Driven t target state b k → (a ≡ b) × (j ≡ k)
  driven_only {a = a} {b = b} (ends e) (ends f) = (done_only a b (sym e ∙ f), refl)
  driven_only {a = a} (ends e) (goes_on f g) = absurd (let z : ◌≡◌ {A = ℕ} 3 1 = sym (done_answer a) ∙ ap (λ (x : StepTold). x.answer) (sym e ∙ f) in omega arith)
  driven_only {a = a} (ends e) (scans f g) = absurd (let z : ◌≡◌ {A = ℕ} 3 2 = sym (done_answer a) ∙ ap (λ (x : StepTold). x.answer) (sym e ∙ f) in omega arith)
  driven_only {b = b} (goes_on e d) (ends f) = absurd (let z : ◌≡◌ {A = ℕ} 3 1 = sym (done_answer b) ∙ ap (λ (x : StepTold). x.answer) (sym f ∙ e) in omega arith)
  driven_only {state} (goes_on e d) (goes_on f g) =
      let rest : _ = driven_only d (same_state (ap (λ (x : StepTold). x.state) (sym e ∙ f)) g) in
      (rest.0, ap (λ (h : ℕ). h + halving_of state) rest.1)
  driven_only (goes_on e d) (scans f g) = absurd (let z : ◌≡◌ {A = ℕ} 1 2 = ap (λ (x : StepTold). x.answer) (sym e ∙ f) in omega arith)
  driven_only {b = b} (scans e d) (ends f) = absurd (let z : ◌≡◌ {A = ℕ} 3 2 = sym (done_answer b) ∙ ap (λ (x : StepTold). x.answer) (sym f ∙ e) in omega arith)
  driven_only (scans e d) (goes_on f g) = absurd (let z : ◌≡◌ {A = ℕ} 2 1 = ap (λ (x : StepTold). x.answer) (sym e ∙ f) in omega arith)
  driven_only (scans e d) (scans f g) = driven_only d (same_state (ap (λ (x : StepTold). x.state) (sym e ∙ f)) g)
