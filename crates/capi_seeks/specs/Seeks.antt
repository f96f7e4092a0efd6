-- The answers of the span and of the seeks, as the records of numbers that the definitions give: a field each, in their order.
use Rattle.std.specs.Prelude.{pos, cond}
use Rattle.span.specs.Span.{SpanTold}
use Rattle.seek.specs.Seek.{SeekTold}
use Rattle.seek.specs.Step.{StateTold, StartTold, StepTold}
use Rattle.plain.specs.Plain.{PlainTold}
use Rattle.seek.specs.declared.SeekState.{SeekState}
use Rattle.seek.specs.declared.SeekState.TheVariants.{Searching, Scanning}
use Rattle.capi_seeks.specs.declared.seeks.SpanAnswer.{SpanAnswer}
use Rattle.capi_seeks.specs.declared.seeks.SeekAnswer.{SeekAnswer}
use Rattle.capi_seeks.specs.declared.seeks.PlainAnswer.{PlainAnswer}
use Rattle.capi_seeks.specs.declared.seeks.State.{State}
use Rattle.capi_seeks.specs.declared.seeks.StartAnswer.{StartAnswer}
use Rattle.capi_seeks.specs.declared.seeks.StepAnswer.{StepAnswer}

abbrev pub span_told : SpanAnswer → SpanTold
span_told r = record { refusal = r.refusal; is_found = r.is_found; first = pos r.first; last = pos r.last }

abbrev pub seek_told : SeekAnswer → SeekTold
seek_told r = record { refusal = r.refusal; is_found = r.is_found; offset = r.offset; halvings = r.halvings }

abbrev pub plain_told : PlainAnswer → PlainTold
plain_told r = record { refusal = r.refusal; is_found = r.is_found; offset = r.offset }

abbrev pub state_told : State → StateTold
state_told s = record { searching = s.searching; lo = s.lo; hi = s.hi; at = s.at }

-- the state that a caller's numbers stand for
abbrev pub state_of : State → SeekState
state_of s = cond s.searching (Searching s.lo s.hi) (Scanning s.at)

abbrev pub start_told : StartAnswer → StartTold
start_told r = record { refusal = r.refusal; state = state_told r.state }

abbrev pub step_told : StepAnswer → StepTold
step_told r = record { refusal = r.refusal; answer = r.answer; state = state_told r.state; is_found = r.is_found; offset = r.offset }
