-- What a search meets, over any trace whose records go on and end inside it: a boundary at or after the place, with its end and its time; and within the limit no search from inside is refused. Assumes nothing.
use Prim.Native.Nat.{ℕ, ◌+◌, ◌-◌, ◌^◌, ◌≤◌, ◌<◌}
use borrow.Author.Tests.{le-ltb}
use lib.IntN.{ℤ}
use mathlib.Core.Bool.{Bool, true, false}
use Rattle.std.specs.Prelude.{Option, None, Some}
use mathlib.Core.Path.{◌≡◌, refl, sym, ap}
use native.Mathlib.Omega.{arith}
use Rattle.layout.specs.Layout.{trace_limit}
use Rattle.record.proofs.Steps.{Steps}
use Rattle.resync.proofs.Chain.{boundary_record}
use Rattle.resync.proofs.Found.{FoundFirst, found_is}
use Rattle.resync.specs.Boundary.{boundary}
use Rattle.resync.specs.Search.{SearchTold, searched, first_from, start_of, window_of, judged_of, default_window}
use Rattle.span.specs.Met.{Trace, MetTold, met_of, meet}

-- a record that was met, in numbers
abbrev pub met_at : ℕ → ℕ → ℤ → MetTold
met_at offset end millis = record { refusal = 0; is_found = true; offset = offset; end = end; millis = millis }

-- what a search from a place that met a record says of it
pub record MetAt (t : Trace) (from : ℕ) (m : MetTold) : Type 0 where
  pub fits : t.size ≤ trace_limit
  pub refused : m.refusal ≡ 0
  pub start : start_of from ≤ m.offset
  pub in_window : m.offset < start_of from + default_window
  pub is_boundary : boundary t.next t.size m.offset ≡ true
  pub none_before : (k : ℕ) → start_of from ≤ k → k < m.offset → boundary t.next t.size k ≡ false
  pub ends : t.next m.offset ≡ Some m.end
  pub time : m.millis ≡ t.millis m.offset

-- all that halving and walking need: records lie at or after the place, and end further on and inside
pub record Meets (met : ℕ → MetTold) (n : ℕ) : Type 0 where
  pub from : (at : ℕ) → (met at).is_found ≡ true → at ≤ (met at).offset
  pub grows : (at : ℕ) → (met at).is_found ≡ true → (met at).offset < (met at).end
  pub inside : (at : ℕ) → (met at).is_found ≡ true → (met at).end ≤ n

module _ (t : Trace) where
  met_by :
      (from : ℕ) (f : SearchTold) → f.is_found ≡ true → FoundFirst t.next t.size (start_of from) default_window f
      → (m : ℕ) → t.next f.offset ≡ Some m → MetAt t from (met_of t f)
  unfolding met_of
  met_by from f is first m e =
      record {
        fits = first.fits;
        refused = first.refused;
        start = first.from;
        in_window = omega (arith, first.within);
        is_boundary = first.is_boundary;
        none_before = first.none_before;
        ends = rw (is, e);
        time = rw is;
      }

  pub met_at_lem : (from : ℕ) → (meet t from).is_found ≡ true → MetAt t from (meet t from)
  unfolding meet met_of
  met_at_lem from is =
      let f : SearchTold = searched t.next t.size from default_window in
      let first : FoundFirst t.next t.size (start_of from) default_window f = found_is t.next t.size from default_window f refl is in
      let next : (m : ℕ) × (t.next f.offset ≡ Some m) = boundary_record t.next t.size f.offset first.is_boundary in
      met_by from f is first next.0 next.1

  pub meets : Steps t.next t.size → Meets (meet t) t.size
  meets steps =
      record {
        from = λ at is. omega (arith, (met_at_lem at is).start);
        grows = λ at is. omega (arith, steps.grows (meet t at).offset (meet t at).end (met_at_lem at is).ends);
        inside = λ at is. steps.inside (meet t at).offset (meet t at).end (met_at_lem at is).ends;
      }

  judged_refusal : (start all : ℕ) (o : Option ℕ) → (judged_of start all o).refusal ≡ 0
  judged_refusal start all None = refl
  judged_refusal start all (Some o) = refl

  -- a search in a trace within the limit, from a place within the limit, is not refused
  pub not_refused : t.size ≤ trace_limit → (from : ℕ) → from ≤ trace_limit → (meet t from).refusal ≡ 0
  unfolding meet met_of searched
  not_refused fits from within =
      let room : start_of from + default_window ≤ 2 ^ 64 - 1 = omega arith in
      simp (le-ltb trace_limit t.size fits, le-ltb (2 ^ 64 - 1) (start_of from + default_window) room)
      (judged_refusal (start_of from) (window_of t.size (start_of from) default_window) (first_from (boundary t.next t.size) (start_of from) (window_of t.size (start_of from) default_window)))

-- past the end nothing is met, and a record that is met ends after the place
module _ (met : ℕ → MetTold) (n : ℕ) (ms : Meets met n) where
  nothing_by : (at : ℕ) → n ≤ at → (b : Bool) → (met at).is_found ≡ b → (met at).is_found ≡ false
  nothing_by at past true e = absurd (omega (arith, ms.from at e, ms.grows at e, ms.inside at e))
  nothing_by at past false e = e

  pub nothing_past : (at : ℕ) → n ≤ at → (met at).is_found ≡ false
  nothing_past at past = nothing_by at past (met at).is_found refl

  pub ends_after : (at : ℕ) → (met at).is_found ≡ true → at < (met at).end
  ends_after at is = omega (arith, ms.from at is, ms.grows at is)

  pub met_after : (at o end : ℕ) (time : ℤ) → met_at o end time ≡ met at → at < end
  met_after at o end time e =
      omega (arith, ends_after at (sym (ap (λ (m : MetTold). m.is_found) e)), ap (λ (m : MetTold). m.end) e)
