-- Two records in one halving: the middle of the trace is the place of the second, which is earlier, so that the halving passes the first. Over any such trace,
-- whether the second follows the first or lies in it. Assumes nothing.
use Prim.Native.Nat.{ℕ, suc, ◌≤◌}
use lib.IntN.{ℤ}
use lib.Signed.{lt_z}
use mathlib.Core.Bool.{true, false}
use Rattle.std.specs.Prelude.{Some}
use mathlib.Core.Path.{◌≡◌, refl, sym, ap, subst, ◌∙◌}
use native.Mathlib.Omega.{arith}
use Rattle.layout.specs.Layout.{trace_limit}
use Rattle.record.proofs.Steps.{Steps}
use Rattle.seam.proofs.Boundaries.{is_boundary}
use Rattle.seam.specs.Seam.{Unbroken, ends, more}
use Rattle.seek.proofs.Halvings as Halvings
use Rattle.seek.proofs.Walks as Walks
use Rattle.seek.specs.Seek.{middle, next_lo, next_hi, halved_none, counted, narrowed}
use Rattle.span.proofs.Meets.{Meets, meets, met_at}
use Rattle.span.specs.Met.{Trace, MetTold, meet, first_met}
use Rattle.plain.proofs.Chain.{met_here, plain_found}
use Rattle.plain.specs.Premises.{HasFirst, UnbrokenFrom}
use Rattle.plain_examples.specs.Differ.{Differ}
use Rattle.plain_examples.proofs.Broken.{differ_by}

module _
    (t : Trace) (steps : Steps t.next t.size) (n-is : t.size ≡ 82078) (target : ℤ) (end k : ℕ)
    (one : t.next 2048 ≡ Some end) (two : t.next 42063 ≡ Some 82078) (rest : Unbroken t.next t.size end k)
    (late : lt_z (t.millis 2048) target ≡ false) (early : lt_z (t.millis 42063) target ≡ true) where
  ms : Meets (meet t) t.size
  ms = meets t steps

  fits : t.size ≤ trace_limit
  fits = omega arith

  first_is : met_at 2048 end (t.millis 2048) ≡ first_met t
  first_is = met_here t steps fits 2048 end (omega arith) (is_boundary t.next t.size steps (more one rest)) one

  pub has_first : HasFirst t
  has_first = sym (ap (λ (m : MetTold). m.is_found) first_is)

  pub place : (first_met t).offset ≡ 2048
  place = sym (ap (λ (m : MetTold). m.offset) first_is)

  pub all_unbroken : UnbrokenFrom t (first_met t).offset
  all_unbroken = (suc k, subst (λ (at : ℕ). Unbroken t.next t.size at (suc k)) (sym place) (more one rest))

  to_the_end : Unbroken t.next t.size 42063 1
  to_the_end = subst (λ (n : ℕ). Unbroken t.next n 42063 1) (sym n-is) (more two ends)

  -- the one halving meets the earlier record, and moves lo to its end, which is the trace's
  middle_is : met_at 42063 82078 (t.millis 42063) ≡ meet t (middle 2048 t.size)
  middle_is =
      let mid : 42063 ≡ middle 2048 t.size = omega arith in
      met_here t steps fits 42063 82078 (omega arith) (is_boundary t.next t.size steps to_the_end) two ∙ ap (meet t) mid

  halved : narrowed (meet t) target t.size 2048 t.size ≡ counted (halved_none 82078 t.size)
  halved =
      Halvings.one_halving (meet t) t.size ms target t.size 2048 t.size (omega arith) (omega arith)
      ∙ ap (λ (m : MetTold). counted (narrowed (meet t) target t.size (next_lo target 2048 m) (next_hi target (middle 2048 t.size) t.size m))) (sym middle_is)
      ∙ simp early (ap counted (Halvings.short (meet t) t.size ms target t.size 82078 t.size (omega arith)))

  pub halved_differs : Differ t target 2048 1
  halved_differs =
      differ_by t target 2048 1 fits has_first place (plain_found t steps target 2048 end one late) (counted (halved_none 82078 t.size))
      (ap (λ (at : ℕ). narrowed (meet t) target t.size at t.size) place ∙ halved) refl
      (Walks.at_end (meet t) t.size ms target t.size 82078 (omega arith))
