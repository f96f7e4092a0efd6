-- What the search's answer says to its callers. Assumes nothing.
use Prim.Native.Nat.{ℕ, ◌<◌, ◌≤◌}
use lib.IntN.{pos}
use lib.ListN.{length}
use mathlib.Core.Bool.{true, false}
use mathlib.Core.List.{List}
use mathlib.Core.Path.{◌≡◌, refl, sym, ap, ◌∙◌}
use native.Mathlib.Omega.{arith}
use Rattle.std.specs.Prelude.{Option, None, Some, Result, Ok, Err, IfSome}
use Rattle.ticks.specs.Ticks.{unix_millis}
use Rattle.layout.specs.Fields.{ticks_at}
use Rattle.layout.specs.Layout.{trace_limit}
use Rattle.record.proofs.Answers.{is_one, next_one}
use Rattle.record.proofs.Valid.{record_steps}
use Rattle.record.specs.Record.{Limits, plausible, next_at, RecordTold, record_at}
use Rattle.resync.specs.Search.{found, nothing, search_from, default_window}
use Rattle.std.specs.Result.{result_unwrap_or}
use Rattle.resync.specs.declared.SearchError.{SearchError}
use Rattle.resync.specs.declared.SearchError.TheVariants as Why
use Rattle.span.proofs.Meets.{Meets, meets, not_refused}
use Rattle.span.specs.Met.{MetTold, end_of, met_of, meet, meet_in, trace_of, not_met, told_met}
use Rattle.span.specs.declared.Met.{Met}

-- an answer that is no record: none was met
pub none_met : (r : Option Met) (m : MetTold) → told_met (Ok r) ≡ m → r ≡ None → m.is_found ≡ false
none_met (Some x) m e w = absurd (let z : ◌≡◌ {A = ℕ} 0 1 = cc in omega arith)
none_met None m e w = sym (ap (λ (y : MetTold). y.is_found) e)

-- the search of a trace's bytes
pub meets_of : (limits : Limits) (kinds s : List ℕ) → Meets (meet (trace_of limits kinds s)) (length s)
meets_of limits kinds s = meets (trace_of limits kinds s) (record_steps limits kinds s)

-- a record that was met lies further on, and ends inside the trace
pub further :
    (kinds s : List ℕ) (from : ℕ) (r : Option Met) → told_met (Ok r) ≡ meet_in kinds s from
    → IfSome r (λ met. (from ≤ met.offset) × (met.offset < met.next_offset) × (met.next_offset ≤ length s))
further kinds s from None e = tt
further kinds s from (Some met) e =
    let is : (meet_in kinds s from).is_found ≡ true = sym (ap (λ (y : MetTold). y.is_found) e) in
    let end : met.next_offset ≡ (meet_in kinds s from).end = ap (λ (y : MetTold). y.end) e in
    let ms : Meets (meet_in kinds s) (length s) = meets_of plausible kinds s in
    let place : met.offset ≡ (meet_in kinds s from).offset = ap (λ (y : MetTold). y.offset) e in
    (omega (arith, ms.from from is), omega (arith, ms.grows from is), omega (arith, ms.inside from is))

-- a search that is not refused answers, and what it answers is what it makes of the record
module _ (kinds s : List ℕ) (from : ℕ) where
  answers_by : (r : Result (Option Met) SearchError) → (told_met r).refusal ≡ 0 → told_met (Ok (result_unwrap_or r None)) ≡ told_met r
  answers_by (Ok x) e = refl
  answers_by (Err Why.TraceTooLong) e = absurd (omega (arith, e))
  answers_by (Err Why.WindowTooLong) e = absurd (omega (arith, e))

  pub answers : length s ≤ trace_limit → from ≤ trace_limit → (r : Result (Option Met) SearchError) → told_met r ≡ meet_in kinds s from
      → told_met (Ok (result_unwrap_or r None)) ≡ meet_in kinds s from
  answers fits near r e = answers_by r (ap (λ (m : MetTold). m.refusal) e ∙ not_refused (trace_of plausible kinds s) fits from near) ∙ e

  -- whatever it answers, a record lies further on
  pub further_on :
      (r : Result (Option Met) SearchError) → told_met r ≡ meet_in kinds s from
      → IfSome (result_unwrap_or r None) (λ met. (from ≤ met.offset) × (met.offset < met.next_offset) × (met.next_offset ≤ length s))
  further_on (Ok x) e = further kinds s from x e
  further_on (Err x) e = tt

module _ (limits : Limits) (kinds s : List ℕ) (from : ℕ) where
  -- nothing found
  pub no_record : (refusal judged : ℕ) → nothing refusal judged ≡ search_from limits kinds s from default_window → not_met refusal ≡ meet (trace_of limits kinds s) from
  unfolding meet met_of
  no_record refusal judged e = ap (met_of (trace_of limits kinds s)) e

  -- a boundary found, and the end and the time of its record
  module _ (at judged : ℕ) (e : found at judged ≡ search_from limits kinds s from default_window) (t : RecordTold) (is : t ≡ record_at limits kinds s at) where
    pub one_record :
        (end m : ℕ) → t.is_valid ≡ true → t.next ≡ end → t.millis ≡ pos m
        → record { refusal = 0; is_found = true; offset = at; end = end; millis = pos m } ≡ meet (trace_of limits kinds s) from
    unfolding meet met_of
    one_record end m v n z =
        let millis_is : pos m ≡ unix_millis (ticks_at s at) = sym z ∙ ap (λ (x : RecordTold). x.millis) (is_one limits kinds s at t is v).1 in
        let end_is : end ≡ end_of (next_at limits kinds s at) = sym n ∙ ap end_of (sym (next_one limits kinds s at t is v)) in
        rw (millis_is, end_is) (ap (met_of (trace_of limits kinds s)) e)
