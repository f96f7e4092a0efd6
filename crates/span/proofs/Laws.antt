-- What the span says, over any trace whose records go on and end inside it: its first time is that of the first record, and its last time that of a record after which none is met. Assumes nothing.
use Prim.Native.Nat.{suc, ◌≤◌}
use borrow.Author.Tests.{le-ltb}
use lib.IntN.{ℤ}
use mathlib.Core.Bool.{true}
use Rattle.std.specs.Prelude.{Some}
use mathlib.Core.Path.{◌≡◌, ap}
use native.Mathlib.Omega.{arith}
use Rattle.layout.specs.Layout.{trace_limit}
use Rattle.record.proofs.Steps.{Steps}
use Rattle.resync.specs.Search.{searched}
use Rattle.span.proofs.Meets.{met_at_lem, meets}
use Rattle.span.proofs.Spans.{LastMet, reaches, last_met}
use Rattle.span.specs.Met.{Trace, meet, first_met}
use Rattle.span.specs.Span.{span_to, last_back, span_of}

-- the span where there is a first record
module _ (t : Trace) (steps : Steps t.next t.size) (fits : t.size ≤ trace_limit) (is : (first_met t).is_found ≡ true) where
  -- a search from the header's end is a search from the start
  from_the_start : (meet t 0).is_found ≡ true
  unfolding meet searched
  from_the_start = is

  pub span_there : (last : ℤ) × ((LastMet (meet t) last) × (span_of t ≡ span_to (t.millis (first_met t).offset) (Some last)))
  unfolding span_of
  span_there =
      let back : (last : ℤ) × (last_back (meet t) t.size (suc t.size) 1048576 ≡ Some last) = reaches (meet t) t.size (meets t steps) t.size 1048576 (omega arith) (omega arith) from_the_start in (
        back.0,
        (
          last_met (meet t) t.size (meets t steps) (suc t.size) 1048576 back.0 back.1,
          simp (le-ltb trace_limit t.size fits, is, back.1) (ap (λ (z : ℤ). span_to z (Some back.0)) (met_at_lem t 2048 is).time),
        ),
      )
