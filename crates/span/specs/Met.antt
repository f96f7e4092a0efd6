-- What span and seeks see of a trace: a search for the next record, and of the record that it meets the place, the end and the time.
use Rattle.std.specs.Prelude.{ℕ, ltb, ℤ, pos, length, Bool, true, false, cond, List, Option, None, Some, Result, Ok, Err}
use Rattle.ticks.specs.Ticks.{unix_millis}
use Rattle.layout.specs.Layout.{header_size, trace_limit}
use Rattle.layout.specs.Fields.{ticks_at}
use Rattle.record.specs.Record.{Limits, plausible, next_at}
use Rattle.layout.specs.declared.TraceTooLong.{TraceTooLong}
use Rattle.resync.specs.Search.{SearchTold, searched, default_window, search_refusal}
use Rattle.resync.specs.declared.SearchError.{SearchError}
use Rattle.span.specs.declared.Met.{Met}

-- a trace: its length, its record test (the place after the valid record at a place, or none), and the time of the record at a place
pub record Trace : Type 0 where
  pub size : ℕ
  pub next : ℕ → Option ℕ
  pub millis : ℕ → ℤ

abbrev pub trace_of : Limits → List ℕ → List ℕ → Trace
trace_of limits kinds s = record { size = length s; next = next_at limits kinds s; millis = λ at. unix_millis (ticks_at s at) }

-- what a search met: the refusal's number or 0, whether there is a record, its place, its end and its time; what is not said is 0
pub record MetTold : Type 0 where
  pub refusal : ℕ
  pub is_found : Bool
  pub offset : ℕ
  pub end : ℕ
  pub millis : ℤ

-- the end of the record at a place where there is one: what a search finds is a boundary, so there it is
abbrev pub end_of : Option ℕ → ℕ
end_of None = 0
end_of (Some end) = end

unfoldable pub met_of : Trace → SearchTold → MetTold
met_of t f =
    record {
      refusal = f.refusal;
      is_found = f.is_found;
      offset = f.offset;
      end = cond f.is_found (end_of (t.next f.offset)) 0;
      millis = cond f.is_found (t.millis f.offset) (pos 0);
    }

-- 01: "The default window is 1,048,576; pages, span and seeks always search with it"
unfoldable pub meet : Trace → ℕ → MetTold
meet t from = met_of t (searched t.next t.size from default_window)

-- the search in the bytes of a trace, as the Rust tests records
abbrev pub meet_in : List ℕ → List ℕ → ℕ → MetTold
meet_in kinds s = meet (trace_of plausible kinds s)

abbrev pub not_met : ℕ → MetTold
not_met refusal = record { refusal = refusal; is_found = false; offset = 0; end = 0; millis = pos 0 }

-- each answer in the paper's numbers
abbrev pub told_met : Result (Option Met) SearchError → MetTold
told_met (Ok (Some met)) = record { refusal = 0; is_found = true; offset = met.offset; end = met.next_offset; millis = pos met.unix_millis }
told_met (Ok None) = not_met 0
told_met (Err refusal) = not_met (search_refusal refusal)

-- the first record: what a search from the header's end meets
abbrev pub first_met : Trace → MetTold
first_met t = meet t header_size

-- what asking for the first record answers: the refusal's number or 0, whether there is one, and its place
pub record FirstTold : Type 0 where
  pub refusal : ℕ
  pub is_found : Bool
  pub offset : ℕ

abbrev pub first_told : ℕ → Bool → ℕ → FirstTold
first_told refusal is_found offset = record { refusal = refusal; is_found = is_found; offset = offset }

-- refusal 1: "the trace is over 1,073,741,824 bytes (all calls on a trace)"
unfoldable pub first_of : Trace → FirstTold
first_of t =
    cond (ltb trace_limit t.size) (first_told 1 false 0)
    (first_told 0 (first_met t).is_found (first_met t).offset)

-- each answer in the paper's numbers
abbrev pub told_first : Result (Option ℕ) TraceTooLong → FirstTold
told_first (Ok (Some offset)) = first_told 0 true offset
told_first (Ok None) = first_told 0 false 0
told_first (Err refusal) = first_told 1 false 0
