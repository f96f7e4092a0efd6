-- Each answer is told in numbers of its own: two answers that tell the same are the same, so a promise about what is told determines the answer. Assumes nothing.
use Prim.Native.Nat.{ℕ}
use lib.Dec.{eqb}
use mathlib.Core.Bool.{cond}
use mathlib.Core.Path.{◌≡◌, refl}
use Rattle.choice.proofs.Only.{only, number}
use Rattle.std.specs.Prelude.{Option, None, Some, Result, Ok, Err}
use Rattle.layout.specs.declared.TraceTooLong.{TraceTooLong}
use Rattle.resync.proofs.Only.{back_refusal}
use Rattle.resync.specs.declared.SearchError.{SearchError}
use Rattle.resync.specs.declared.SearchError.TheVariants as Why
use Rattle.span.specs.Met.{MetTold, told_met, FirstTold, told_first}
use Rattle.span.specs.Span.{SpanTold, told_span}
use Rattle.span.specs.declared.Met.{Met}
use Rattle.span.specs.declared.Span.{Span}

back_met : MetTold → Result (Option Met) SearchError
back_met t =
    cond t.is_found (Ok (Some (record { offset = t.offset; next_offset = t.end; unix_millis = number t.millis })))
    (cond (eqb t.refusal 0) (Ok None) (Err (back_refusal t.refusal)))

same_met : (r : Result (Option Met) SearchError) → back_met (told_met r) ≡ r
unfolding back_met number
same_met (Ok (Some met)) = refl
same_met (Ok None) = refl
same_met (Err Why.TraceTooLong) = refl
same_met (Err Why.WindowTooLong) = refl

pub only_met : (a b : Result (Option Met) SearchError) → told_met a ≡ told_met b → a ≡ b
only_met = only told_met back_met same_met

back_first : FirstTold → Result (Option ℕ) TraceTooLong
back_first t = cond (eqb t.refusal 0) (Ok (cond t.is_found (Some t.offset) None)) (Err (record {}))

same_first : (r : Result (Option ℕ) TraceTooLong) → back_first (told_first r) ≡ r
unfolding back_first
same_first (Ok (Some offset)) = refl
same_first (Ok None) = refl
same_first (Err refusal) = refl

pub only_first : (a b : Result (Option ℕ) TraceTooLong) → told_first a ≡ told_first b → a ≡ b
only_first = only told_first back_first same_first

back_span : SpanTold → Result (Option Span) TraceTooLong
back_span t =
    cond (eqb t.refusal 0) (Ok (cond t.is_found (Some (record { first = number t.first; last = number t.last })) None)) (Err (record {}))

same_span : (r : Result (Option Span) TraceTooLong) → back_span (told_span r) ≡ r
unfolding back_span number
same_span (Ok (Some span)) = refl
same_span (Ok None) = refl
same_span (Err refusal) = refl

pub only_span : (a b : Result (Option Span) TraceTooLong) → told_span a ≡ told_span b → a ≡ b
only_span = only told_span back_span same_span
