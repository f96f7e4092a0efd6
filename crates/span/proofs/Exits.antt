-- The ways out of the code, over a search: which facts make each answer the definition's. Assumes nothing.
use Prim.Native.Nat.{ℕ, suc, ◌≤◌, ◌<◌}
use lib.IntN.{pos}
use borrow.Author.Tests.{lt-ltb, le-ltb}
use mathlib.Core.Bool.{false, cond}
use mathlib.Core.Path.{◌≡◌}
use Rattle.layout.specs.Layout.{header_size, trace_limit}
use Rattle.std.specs.Prelude.{Option, None, Some, Ok, option_map}
use Rattle.span.specs.Met.{Trace, MetTold, meet, told_met, first_told, first_of, told_first}
use Rattle.span.specs.Span.{no_span, span_to, last_back, span_of, told_span}
use Rattle.span.specs.declared.Met.{Met}
use Rattle.span.specs.declared.Span.{Span}

-- refusal 1, of each
module _ (t : Trace) (long : trace_limit < t.size) where
  pub first_long : first_told 1 false 0 ≡ first_of t
  unfolding first_of
  first_long = simp (lt-ltb trace_limit t.size long)

  pub span_long : no_span 1 ≡ span_of t
  unfolding span_of
  span_long = simp (lt-ltb trace_limit t.size long)

-- within the limit, by what the search for the first record met
module _ (t : Trace) (fits : t.size ≤ trace_limit) where
  pub first_is : (r : Option Met) → told_met (Ok r) ≡ meet t header_size → (o : Option ℕ) → o ≡ option_map (λ m. m.offset) r → told_first (Ok o) ≡ first_of t
  unfolding first_of
  first_is (Some m) e o made = rw (made, ← e) (simp (le-ltb trace_limit t.size fits))
  first_is None e o made = rw (made, ← e) (simp (le-ltb trace_limit t.size fits))

  pub span_is : (m : MetTold) → m ≡ meet t header_size → cond m.is_found (span_to m.millis (last_back (meet t) t.size (suc t.size) 1048576)) (no_span 0) ≡ span_of t
  unfolding span_of
  span_is m e = rw e (simp (le-ltb trace_limit t.size fits))

-- a span's answer, by the last time
pub span_told : (first : ℕ) (l : Option ℕ) (o : Option Span) → o ≡ option_map (λ x. record { first = first; last = x }) l → told_span (Ok o) ≡ span_to (pos first) (option_map pos l)
span_told first None o made = rw made
span_told first (Some last) o made = rw made
