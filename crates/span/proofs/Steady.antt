-- What counts its steps and does not change from some count on is the same for all counts from there. Assumes nothing.
use Prim.Native.Nat.{ℕ, zero, suc, ◌≤◌}
use mathlib.Core.Path.{◌≡◌, ap, ◌∙◌}
use native.Mathlib.Decide.{ℕ_discrete}
use native.Mathlib.Omega.{arith}

module _ {A : Type 0} (f : ℕ → A) (least : ℕ) (same : (k : ℕ) → least ≤ k → f k ≡ f (suc k)) where
  steady_by : (k j : ℕ) → (least ≤ k → k ≤ j → f k ≡ f j) → Dec (k ≡ suc j) → least ≤ k → k ≤ suc j → f k ≡ f (suc j)
  steady_by k j ih (yes e) h l = ap f e
  steady_by k j ih (no e) h l = ih h (omega arith) ∙ same j (omega arith)

  pub steady : (k j : ℕ) → least ≤ k → k ≤ j → f k ≡ f j
  steady k zero h l = ap f (omega arith)
  steady k (suc j) h l = steady_by k j (steady k j) (ℕ_discrete k (suc j)) h l
