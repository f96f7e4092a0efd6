-- The span: the times of the first and of the last record.
use Rattle.std.specs.Prelude.{ℕ, zero, suc, ◌-◌, ◌*◌, ltb, ℤ, pos, Bool, true, false, cond, Option, None, Some, Result, Ok, Err}
use Rattle.layout.specs.Layout.{trace_limit}
use Rattle.layout.specs.declared.TraceTooLong.{TraceTooLong}
use Rattle.span.specs.Met.{Trace, MetTold, meet, first_met}
use Rattle.span.specs.declared.Span.{Span}

-- 01: "the last record met by walking, a search for each": its time, or the given one where none is met. The steps are counted, and
-- there are never more records than bytes: as many steps as there are bytes from the place on are enough, and more change nothing
-- (`last_more_steps` of proofs/Spans.antt)
unfoldable pub last_time : (ℕ → MetTold) → ℕ → ℕ → ℤ → ℤ
last_time met zero at time = time
last_time met (suc k) at time = cond (met at).is_found (last_time met k (met at).end (met at).millis) time

-- 01: "from 1,048,576 bytes before the end; if none is met, four times as far back, up to the whole trace": n is the length, and a
-- place `back` before the end is the start where the trace is no longer than that. The steps are counted: one, and as many as there are bytes
-- before that place, are enough, and more change nothing (`back_more_steps` of proofs/Spans.antt)
unfoldable pub last_back : (ℕ → MetTold) → ℕ → ℕ → ℕ → Option ℤ
last_back met n zero back = None
last_back met n (suc k) back =
    cond (met (n - back)).is_found (Some (last_time met n (met (n - back)).end (met (n - back)).millis))
    (cond (ltb back n) (last_back met n k (back * 4)) None)

-- what asking for the span answers: the refusal's number or 0, whether there is a span, and the two times
pub record SpanTold : Type 0 where
  pub refusal : ℕ
  pub is_found : Bool
  pub first : ℤ
  pub last : ℤ

abbrev pub no_span : ℕ → SpanTold
no_span refusal = record { refusal = refusal; is_found = false; first = pos 0; last = pos 0 }

abbrev pub span_to : ℤ → Option ℤ → SpanTold
span_to first None = no_span 0
span_to first (Some last) = record { refusal = 0; is_found = true; first = first; last = last }

-- 01: "Span: time of the first record, and of the last record met .. Without a first record there is no span"
unfoldable pub span_of : Trace → SpanTold
span_of t =
    cond (ltb trace_limit t.size) (no_span 1)
    (cond (first_met t).is_found (span_to (first_met t).millis (last_back (meet t) t.size (suc t.size) 1048576)) (no_span 0))

-- each answer in the paper's numbers
abbrev pub told_span : Result (Option Span) TraceTooLong → SpanTold
told_span (Ok (Some span)) = record { refusal = 0; is_found = true; first = pos span.first; last = pos span.last }
told_span (Ok None) = no_span 0
told_span (Err refusal) = no_span 1
