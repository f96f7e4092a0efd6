-- The seam check: what the code has at each way out, and that its answer says what the plain statements say. Assumes nothing.
use Prim.Native.Nat.{ℕ, ◌+◌, ◌≤◌, ◌<◌}
use borrow.Author.Tests.{lt-ltb, le-ltb, eq-eqb, ne_eqb}
use mathlib.Core.Bool.{false≢true}
use Rattle.std.specs.Prelude.{Option, None, Some, Result, Ok, Err, IsErr, IsErrAnd}
use mathlib.Core.Path.{◌≡◌, sym, ap, ◌∙◌}
use native.Mathlib.Omega.{arith}
use Rattle.std.proofs.lemmas.Bool.Decides.{nat_tests}
use Rattle.layout.specs.Layout.{header_size, trace_limit}
use Rattle.record.proofs.Steps.{Steps, past_end}
use Rattle.seam.specs.Seam.{Reached, reached, one_more, reach, unbroken_with, broken_at, seam_refused, seam_of, seam_from, seam_refusal, told_seam}
use Rattle.seam.specs.declared.Seam.{Seam}
use Rattle.seam.specs.declared.SeamError.{SeamError}
use Rattle.seam.proofs.Walks.{stopped, goes_on_lem}

module _ (next : ℕ → Option ℕ) (n : ℕ) (steps : Steps next n) where
  pub reach_stops : (at : ℕ) → next at ≡ None → reach next n at ≡ reached at 0
  unfolding reach
  reach_stops at e = stopped next n steps (λ (end : ℕ). reached end 0) one_more n at e

  pub reach_on : (at m : ℕ) → next at ≡ Some m → reach next n at ≡ one_more at (reach next n m)
  unfolding reach
  reach_on at m e = goes_on_lem next n steps (λ (end : ℕ). reached end 0) one_more at m e

-- none was passed yet
pub at_start : (r : Reached) → r ≡ reached r.place (0 + r.records)
at_start r = ap (reached r.place) (omega arith)

module _ (next : ℕ → Option ℕ) (n place : ℕ) where
  pub too_long : trace_limit < n → seam_refused 1 ≡ seam_from next n place
  unfolding seam_from
  too_long h = simp (lt-ltb trace_limit n h)

  -- a trace over the limit is refused
  pub refused : (r : Result Seam SeamError) → IsErr r × IsErrAnd r (λ e. e ≡ SeamError.TraceTooLong) → trace_limit < n → told_seam r ≡ seam_from next n place
  refused (Ok s) is h = absurd (false≢true is.0)
  refused (Err e) is h = ap (λ (x : SeamError). seam_refused (seam_refusal x)) is.1 ∙ too_long h

  module _ (fits : n ≤ trace_limit) where
    pub outside : (header_size ≤ place → n < place) → seam_refused 6 ≡ seam_from next n place
    unfolding seam_from
    outside h = grind (arith, nat_tests)

    -- k records lead from the place to another
    module _ (steps : Steps next n) (low : header_size ≤ place) (high : place ≤ n) (at k : ℕ) (run : reach next n place ≡ reached (reach next n at).place (k + (reach next n at).records)) where
      is : seam_from next n place ≡ seam_of n (reach next n place)
      unfolding seam_from
      is = simp (le-ltb trace_limit n fits, le-ltb place header_size low, le-ltb n place high)

      stops : next at ≡ None → reach next n place ≡ reached at k
      stops e = run ∙ rw (reach_stops next n steps at e) (ap (reached at) (omega arith))

      pub broken : next at ≡ None → at < n → broken_at at k ≡ seam_from next n place
      broken e h = sym (is ∙ rw (stops e) (simp (ne_eqb at n (λ z. omega arith))))

      pub unbroken : at ≡ n → unbroken_with k ≡ seam_from next n place
      unbroken h =
          let none_there : next at ≡ None = past_end next n steps at (omega arith) in
          sym (is ∙ rw (stops none_there) (simp (eq-eqb at n h)))

      pub one_more_lem : (m : ℕ) → next at ≡ Some m → reach next n place ≡ reached (reach next n m).place (k + 1 + (reach next n m).records)
      one_more_lem m e = run ∙ rw (reach_on next n steps at m e) (ap (reached (reach next n m).place) (omega arith))
