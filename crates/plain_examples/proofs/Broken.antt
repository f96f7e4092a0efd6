-- Three records that follow one another, and one byte more: only the first is a boundary, so that the whole seek meets no other. Over any such trace. Assumes
-- nothing.
use Prim.Native.Nat.{ℕ, ◌≤◌}
use borrow.Author.Tests.{le-ltb}
use lib.IntN.{ℤ}
use lib.Signed.{lt_z}
use mathlib.Core.Bool.{Bool, true, false, true≢false}
use mathlib.Core.List.{[], ◌∷◌, Memᴰ}
use Rattle.std.specs.Prelude.{Option, None, Some}
use mathlib.Core.Path.{◌≡◌, refl, sym, ap, subst, ◌∙◌}
use native.Mathlib.Omega.{arith}
use Rattle.layout.specs.Layout.{trace_limit}
use Rattle.record.proofs.Steps.{Steps}
use Rattle.resync.proofs.Chain.{boundary_record, three, breaks_off}
use Rattle.resync.specs.Boundary.{boundary}
use Rattle.seek.proofs.Halvings as Halvings
use Rattle.seek.proofs.Walks as Walks
use Rattle.seek.specs.Seek.{Bracket, walked, seek_told, bracket, seek_of}
use Rattle.span.proofs.Meets.{Meets, meets, MetAt, met_at_lem, met_at}
use Rattle.span.specs.Met.{Trace, MetTold, meet, first_met}
use Rattle.plain.proofs.Chain.{met_here, plain_passes, plain_found}
use Rattle.plain.specs.Plain.{plain_from, plain_told, plain_of}
use Rattle.plain.specs.Premises.{HasFirst, NeverDecrease, NoOtherBoundary}
use Rattle.plain_examples.specs.Differ.{Differ}
use Rattle.plain_examples.proofs.Lines.{of_three, Line, end, then, Rising, no_record_at, no_others, in_order}

-- the answers, by what the walks answer
pub differ_by :
    (t : Trace) (target : ℤ) (place halvings : ℕ) → t.size ≤ trace_limit → (first_met t).is_found ≡ true → (first_met t).offset ≡ 2048
    → plain_from t target 2048 ≡ Some place → (b : Bracket) → bracket t target ≡ b → b.halvings ≡ halvings → walked (meet t) t.size target t.size b.lo ≡ None
    → Differ t target place halvings
unfolding plain_of seek_of
differ_by t target place halvings fits is first p b bracket_is h w =
    record {
      plain = simp (le-ltb trace_limit t.size fits, is) (ap (λ (at : ℕ). plain_told (plain_from t target at)) first ∙ ap plain_told p);
      whole = simp (le-ltb trace_limit t.size fits, is)
          (ap (λ (x : Bracket). seek_told x.halvings (walked (meet t) t.size target t.size x.lo)) bracket_is
          ∙ ap (λ (k : ℕ). seek_told k (walked (meet t) t.size target t.size b.lo)) h
          ∙ ap (seek_told halvings) w);
    }

module _
    (t : Trace) (steps : Steps t.next t.size) (n-is : t.size ≡ 2094) (target : ℤ)
    (one : t.next 2048 ≡ Some 2063) (two : t.next 2063 ≡ Some 2078) (three_is : t.next 2078 ≡ Some 2093)
    (only : (at m : ℕ) → t.next at ≡ Some m → Memᴰ at (2048 ∷ 2063 ∷ 2078 ∷ []))
    (early : lt_z (t.millis 2048) target ≡ true) (late : lt_z (t.millis 2063) target ≡ false) where
  abbrev next : ℕ → Option ℕ
  next = t.next

  line : Line t 2048 (2048 ∷ 2063 ∷ 2078 ∷ []) 2093
  line = then one (then two (then three_is end))

  pub stops : next 2093 ≡ None
  stops = no_record_at t line only 2093 refl

  ms : Meets (meet t) t.size
  ms = meets t steps

  fits : t.size ≤ trace_limit
  fits = omega arith

  pub first_is : met_at 2048 2063 (t.millis 2048) ≡ first_met t
  first_is = met_here t steps fits 2048 2063 (omega arith) (three next t.size 3 2048 2093 refl (simp (one, two, three_is))) one

  -- a boundary after the first there is none
  none_after : (at : ℕ) → 2063 ≤ at → boundary next t.size at ≡ true → ⊥
  none_after at from is =
      of_three at 2048 2063 2078 (only at (boundary_record next t.size at is).0 (boundary_record next t.size at is).1) (λ e. omega arith)
      (λ e. true≢false (sym is ∙ ap (boundary next t.size) e ∙ breaks_off next t.size steps 2063 2093 stops (omega arith) 2 (omega arith) (omega arith) (simp (two, three_is))))
      (λ e. true≢false (sym is ∙ ap (boundary next t.size) e ∙ breaks_off next t.size steps 2078 2093 stops (omega arith) 1 (omega arith) (omega arith) three_is))

  no_more_by : (b : Bool) → (meet t 2063).is_found ≡ b → (meet t 2063).is_found ≡ false
  no_more_by false e = e
  no_more_by true e = let m : MetAt t 2063 (meet t 2063) = met_at_lem t 2063 e in absurd (none_after (meet t 2063).offset (omega (arith, m.start)) m.is_boundary)

  place : (first_met t).offset ≡ 2048
  place = sym (ap (λ (m : MetTold). m.offset) first_is)

  is_found_lem : (first_met t).is_found ≡ true
  is_found_lem = sym (ap (λ (m : MetTold). m.is_found) first_is)

  short : bracket t target ≡ record { lo = (first_met t).offset; hi = t.size; halvings = 0 }
  short = Halvings.short (meet t) t.size ms target t.size (first_met t).offset t.size (omega (arith, place))

  walks : walked (meet t) t.size target t.size (first_met t).offset ≡ None
  walks =
      ap (λ (lo : ℕ). walked (meet t) t.size target t.size lo) place
      ∙ Walks.passes (meet t) t.size ms target t.size 2048 (omega arith) (omega arith) 2048 2063 (t.millis 2048) first_is early
      ∙ Walks.none_met_at (meet t) t.size ms target t.size 2063 (no_more_by (meet t 2063).is_found refl)

  -- all but unbroken
  pub broken_differs :
      Rising t (2048 ∷ 2063 ∷ 2078 ∷ [])
      → HasFirst t × (NeverDecrease t (first_met t).offset × (NoOtherBoundary t (first_met t).offset × Differ t target 2063 0))
  broken_differs rising = (
    is_found_lem,
    (
      subst (NeverDecrease t) (sym place) (in_order t line only stops rising),
      (
        subst (NoOtherBoundary t) (sym place) (no_others t line only),
        differ_by t target 2063 0 fits is_found_lem place
            (plain_passes t steps target 2048 2063 one early ∙ plain_found t steps target 2063 2078 two late)
            (record { lo = (first_met t).offset; hi = t.size; halvings = 0 }) short refl walks,
      ),
    ),
  )
