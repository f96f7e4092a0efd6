-- The walk over records: the trace's length is turns enough, so that the walk is what its first record makes of the rest. Assumes nothing.
use Prim.Native.Nat.{ℕ, zero, suc, ◌+◌, ◌≤◌}
use Rattle.std.specs.Prelude.{Option, None, Some}
use mathlib.Core.Path.{◌≡◌, refl, sym, ap, ◌∙◌}
use native.Mathlib.Omega.{arith}
use Rattle.record.proofs.Steps.{Steps, past_end}
use Rattle.seam.specs.Walk.{or_else, walk}

module _ (next : ℕ → Option ℕ) (n : ℕ) (steps : Steps next n) where
  -- what holds where no record is, and of each record where it holds after it, holds everywhere
  module _ (P : ℕ → Type 0) (stop : (at : ℕ) → next at ≡ None → P at) (step : (at m : ℕ) → next at ≡ Some m → P m → P at) where
    records_at : (at : ℕ) → ((m : ℕ) → at + 15 ≤ m → P m) → (o : Option ℕ) → next at ≡ o → P at
    records_at at ih None e = stop at e
    records_at at ih (Some m) e = step at m e (ih m (steps.grows at m e))

    records_by : (t at : ℕ) → n ≤ t + at → P at
    records_by zero at h = stop at (past_end next n steps at (omega arith))
    records_by (suc t) at h = records_at at (λ m g. records_by t m (omega arith)) (next at) refl

    pub by_records : (at : ℕ) → P at
    by_records at = records_by n at (omega arith)

  module _ {A : Type 0} (end : ℕ → A) (each : ℕ → A → A) where
    pub stopped : (t at : ℕ) → next at ≡ None → walk next end each t at ≡ end at
    unfolding walk
    stopped zero at e = refl
    stopped (suc t) at e = rw e

    enough_by : (t u at : ℕ) → ((m : ℕ) → at + 15 ≤ m → walk next end each t m ≡ walk next end each u m) → (o : Option ℕ) → next at ≡ o
        → or_else o (end at) (λ (m : ℕ). each at (walk next end each t m)) ≡ or_else o (end at) (λ (m : ℕ). each at (walk next end each u m))
    enough_by t u at h None e = refl
    enough_by t u at h (Some m) e = ap (each at) (h m (steps.grows at m e))

    -- more turns change nothing
    pub enough : (t u at : ℕ) → n ≤ t + at → n ≤ u + at → walk next end each t at ≡ walk next end each u at
    unfolding walk
    enough zero u at h k = sym (stopped u at (past_end next n steps at (omega arith)))
    enough (suc t) zero at h k = stopped (suc t) at (past_end next n steps at (omega arith))
    enough (suc t) (suc u) at h k = enough_by t u at (λ m g. enough t u m (omega arith) (omega arith)) (next at) refl

    -- one record, and the walk from the next
    pub goes_on_lem : (at m : ℕ) → next at ≡ Some m → walk next end each n at ≡ each at (walk next end each n m)
    unfolding walk
    goes_on_lem at m e = enough n (suc n) at (omega arith) (omega arith) ∙ rw e
