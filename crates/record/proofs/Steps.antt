-- What the searches and walks ask of a record test: that it goes on and stays inside the trace. Assumes nothing.
use Prim.Native.Nat.{ℕ, ◌+◌, ◌≤◌}
use Rattle.std.specs.Prelude.{Option, None, Some}
use mathlib.Core.Path.{◌≡◌, refl}
use native.Mathlib.Omega.{arith}

-- a record test whose records take at least 15 bytes and end inside the trace
pub record Steps (next : ℕ → Option ℕ) (n : ℕ) : Type 0 where
  pub grows : (at m : ℕ) → next at ≡ Some m → at + 15 ≤ m
  pub inside : (at m : ℕ) → next at ≡ Some m → m ≤ n

module _ (next : ℕ → Option ℕ) (n : ℕ) (steps : Steps next n) where
  none_by : (at : ℕ) → n ≤ at → (o : Option ℕ) → next at ≡ o → next at ≡ None
  none_by at h None e = e
  none_by at h (Some m) e = absurd (omega (arith, steps.grows at m e, steps.inside at m e))

  -- no record begins at or past the end
  pub past_end : (at : ℕ) → n ≤ at → next at ≡ None
  past_end at h = none_by at h (next at) refl
