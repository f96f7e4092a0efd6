-- The records that follow one another from a place, and the plain walk over them. Over any trace whose records go on and end inside it. Assumes nothing.
use Prim.Native.Nat.{ℕ, suc, ◌+◌, ◌-◌, ◌≤◌, ◌<◌, min}
use lib.Dec.{eqb}
use lib.IntN.{ℤ}
use lib.Signed.{lt_z}
use mathlib.Core.Bool.{true, false, or-true, or-false}
use Rattle.std.specs.Prelude.{Option, None, Some}
use mathlib.Core.Path.{◌≡◌, refl, sym, ap, subst, ◌∙◌}
use native.Mathlib.Omega.{arith}
use Rattle.layout.specs.Layout.{header_size, trace_limit}
use Rattle.record.proofs.Steps.{Steps}
use Rattle.resync.proofs.Chain.{boundary_record}
use Rattle.resync.proofs.Searched.{is_there}
use Rattle.resync.specs.Boundary.{boundary}
use Rattle.resync.specs.Search.{found, searched, default_window}
use Rattle.seam.proofs.Walks.{stopped, goes_on_lem}
use Rattle.seam.specs.Seam.{Unbroken, ends, more}
use Rattle.span.proofs.Meets.{met_at}
use Rattle.span.specs.Met.{Trace, end_of, met_of, meet}
use Rattle.plain.specs.Plain.{or_later, plain_from}

module _ (next : ℕ → Option ℕ) (n : ℕ) (steps : Steps next n) where
  -- records lead further on
  pub leads_on : {to at k : ℕ} → Unbroken next to at k → at ≤ to
  leads_on ends = omega arith
  leads_on (more {at} {m} {k} e u) = omega (arith, steps.grows at m e, leads_on u)

  -- and stay inside
  pub stays_inside : {to at k : ℕ} → Unbroken next to at k → at ≤ n → to ≤ n
  stays_inside ends h = h
  stays_inside (more {at} {m} {k} e u) h = stays_inside u (steps.inside at m e)

  -- one record more at the end
  pub one_after : {to at k end : ℕ} → Unbroken next to at k → next to ≡ Some end → Unbroken next end at (suc k)
  one_after ends f = more f ends
  one_after (more e u) f = more e (one_after u f)

  -- of two places that records lead to from one, they lead from the one to the other that is further on
  pub between : {a b at j k : ℕ} → Unbroken next a at j → Unbroken next b at k → a ≤ b → (i : ℕ) × Unbroken next b a i
  between {k = k} ends v l = (k, v)
  between (more {at} {m} {k} e u) ends l = absurd (omega (arith, steps.grows at m e, leads_on u))
  between {a = a} {b = b} (more {m = m} e u) (more {m = p} {k = k} f v) l =
      let same : m ≡ p = cc in
      between u (subst (λ (x : ℕ). Unbroken next b x k) (sym same) v) l

  -- a record stands where records lead on from, to one
  pub stands : {to at k end : ℕ} → Unbroken next to at k → next to ≡ Some end → (m : ℕ) × (next at ≡ Some m)
  stands {end = end} ends f = (end, f)
  stands (more {m = m} e u) f = (m, e)

  -- a record before a boundary is one: three follow it, or fewer end at the end
  two_before : (at m p : ℕ) → next at ≡ Some m → next m ≡ Some p → (o : Option ℕ) → next p ≡ o → boundary next n m ≡ true → boundary next n at ≡ true
  unfolding boundary
  two_before at m p e f (Some q) g is = simp (e, f, g)
  two_before at m p e f None g is =
      let last : eqb p n ≡ true = sym (or-false (eqb p n)) ∙ simp (f, g) at is in
      simp (e, f, g, last, or-true)

  one_before : (at m : ℕ) → next at ≡ Some m → boundary next n m ≡ true → boundary next n at ≡ true
  one_before at m e is =
      let p : (p : ℕ) × (next m ≡ Some p) = boundary_record next n m is in
      two_before at m p.0 e p.1 (next p.0) refl is

  pub boundary_before : {to at k : ℕ} → Unbroken next to at k → boundary next n to ≡ true → boundary next n at ≡ true
  boundary_before ends is = is
  boundary_before (more {at} {m} e u) is = one_before at m e (boundary_before u is)

module _ (t : Trace) (steps : Steps t.next t.size) (target : ℤ) where
  abbrev plain : ℕ → Option ℕ
  plain at = plain_from t target at

  pub plain_stops : (at : ℕ) → t.next at ≡ None → plain at ≡ None
  unfolding plain_from
  plain_stops at e = stopped t.next t.size steps (λ (end : ℕ). None) (or_later t target) t.size at e

  plain_on : (at m : ℕ) → t.next at ≡ Some m → plain at ≡ or_later t target at (plain m)
  unfolding plain_from
  plain_on at m e = goes_on_lem t.next t.size steps (λ (end : ℕ). None) (or_later t target) at m e

  pub plain_found : (at m : ℕ) → t.next at ≡ Some m → lt_z (t.millis at) target ≡ false → plain at ≡ Some at
  plain_found at m e q = plain_on at m e ∙ simp q

  pub plain_passes : (at m : ℕ) → t.next at ≡ Some m → lt_z (t.millis at) target ≡ true → plain at ≡ plain m
  plain_passes at m e q = plain_on at m e ∙ simp q

-- a search meets the first boundary from its place on, if it lies in the window
pub met_next :
    (t : Trace) → Steps t.next t.size → t.size ≤ trace_limit → (from at m : ℕ) → header_size ≤ from → from ≤ at → at < from + default_window
    → ((j : ℕ) → from ≤ j → j < at → boundary t.next t.size j ≡ false)
    → boundary t.next t.size at ≡ true → t.next at ≡ Some m → met_at at m (t.millis at) ≡ meet t from
unfolding meet met_of
met_next t steps fits from at m low further near before is e =
    let inside : at < t.size = omega (arith, steps.grows at m e, steps.inside at m e) in
    let f : found at (at - from + 1) ≡ searched t.next t.size from default_window =
    is_there t.next t.size from default_window fits from (omega arith) (omega arith) (min (from + default_window) t.size) refl at
    (record { from = further; within = omega arith; none_before = before; passes = λ l. is })
    (omega arith) in
    ap (λ (o : Option ℕ). met_at at (end_of o) (t.millis at)) (sym e) ∙ ap (met_of t) f

-- from a boundary it meets that one
pub met_here :
    (t : Trace) → Steps t.next t.size → t.size ≤ trace_limit → (at m : ℕ) → header_size ≤ at
    → boundary t.next t.size at ≡ true → t.next at ≡ Some m → met_at at m (t.millis at) ≡ meet t at
met_here t steps fits at m low is e = met_next t steps fits at at m low (omega arith) (omega arith) (λ j l h. absurd (omega arith)) is e
