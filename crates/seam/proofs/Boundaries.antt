-- In an unbroken stretch every record begins at a boundary, so that a search from its place finds it at once. Over any record test. Assumes nothing.
use Prim.Native.Nat.{ℕ, suc, ◌+◌, ◌-◌, ◌≤◌, ◌<◌, min}
use borrow.Author.Tests.{eq-eqb}
use mathlib.Core.Bool.{Bool, true, false, ◌||◌}
use Rattle.std.specs.Prelude.{Option}
use mathlib.Core.Path.{◌≡◌, refl}
use native.Mathlib.Omega.{arith}
use Rattle.layout.specs.Layout.{header_size, trace_limit}
use Rattle.record.proofs.Steps.{Steps, past_end}
use Rattle.resync.proofs.Searched.{is_there, no_offset}
use Rattle.resync.specs.Boundary.{boundary}
use Rattle.resync.specs.Search.{found, nothing, searched, default_window}
use Rattle.seam.specs.Seam.{Unbroken, ends, more}

or-true : (b : Bool) → (b || true) ≡ true
or-true true = refl
or-true false = refl

module _ (next : ℕ → Option ℕ) (n : ℕ) (steps : Steps next n) where
  pub unbroken_inside : {at k : ℕ} → Unbroken next n at k → at ≤ n
  unbroken_inside ends = omega arith
  unbroken_inside (more {at} {m} {k} e u) = omega (arith, steps.grows at m e, steps.inside at m e)

  -- three valid records follow, or fewer end exactly at the end
  pub is_boundary : {at k : ℕ} → Unbroken next n at (suc k) → boundary next n at ≡ true
  unfolding boundary
  is_boundary (more e ends) = simp (e, past_end next n steps n (omega arith), eq-eqb n n refl)
  is_boundary (more e (more f ends)) = simp (e, f, past_end next n steps n (omega arith), eq-eqb n n refl, or-true)
  is_boundary (more e (more f (more g u))) = simp (e, f, g)

  module _ (fits : n ≤ trace_limit) where
    -- the search from a record's place finds it
    pub finds : {at k : ℕ} → header_size ≤ at → Unbroken next n at (suc k) → found at (at - at + 1) ≡ searched next n at default_window
    finds {at} {k} low u =
        let begins : at < n = record_inside u in
        is_there next n at default_window fits at (omega arith) (omega arith) (min (at + default_window) n) refl at
        (record { from = omega arith; within = omega arith; none_before = λ j h l. absurd (omega arith); passes = λ l. is_boundary u })
        (omega arith)
      where
        record_inside : {at k : ℕ} → Unbroken next n at (suc k) → at < n
        record_inside (more {at} {m} {k} e u) = omega (arith, steps.grows at m e, steps.inside at m e)

    -- from the end it finds nothing
    pub finds_none : header_size ≤ n → nothing 0 0 ≡ searched next n n default_window
    finds_none low = no_offset next n n default_window fits n (omega arith) (omega arith) (min (n + default_window) n) refl (omega arith)
