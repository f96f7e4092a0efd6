-- A promise determines its answer: two answers that are told as the same record of numbers are equal. Assumes nothing.
use lib.IntN.{nat_abs}
use mathlib.Core.Path.{◌≡◌}
use Rattle.capi_seeks.specs.Seeks.{span_told, seek_told, plain_told, state_told, start_told, step_told}
use Rattle.capi_seeks.specs.declared.seeks.SpanAnswer.{SpanAnswer}
use Rattle.capi_seeks.specs.declared.seeks.SeekAnswer.{SeekAnswer}
use Rattle.capi_seeks.specs.declared.seeks.PlainAnswer.{PlainAnswer}
use Rattle.capi_seeks.specs.declared.seeks.State.{State}
use Rattle.capi_seeks.specs.declared.seeks.StartAnswer.{StartAnswer}
use Rattle.capi_seeks.specs.declared.seeks.StepAnswer.{StepAnswer}

pub span_only : (a b : SpanAnswer) → span_told a ≡ span_told b → a ≡ b
span_only a b e = λ i. record { refusal = (e i).refusal; is_found = (e i).is_found; first = nat_abs (e i).first; last = nat_abs (e i).last }

pub seek_only : (a b : SeekAnswer) → seek_told a ≡ seek_told b → a ≡ b
seek_only a b e = λ i. record { refusal = (e i).refusal; is_found = (e i).is_found; offset = (e i).offset; halvings = (e i).halvings }

pub plain_only : (a b : PlainAnswer) → plain_told a ≡ plain_told b → a ≡ b
plain_only a b e = λ i. record { refusal = (e i).refusal; is_found = (e i).is_found; offset = (e i).offset }

pub state_only : (a b : State) → state_told a ≡ state_told b → a ≡ b
state_only a b e = λ i. record { searching = (e i).searching; lo = (e i).lo; hi = (e i).hi; at = (e i).at }

pub start_only : (a b : StartAnswer) → start_told a ≡ start_told b → a ≡ b
start_only a b e = λ i. record { refusal = (e i).refusal; state = state_only a.state b.state (λ j. (e j).state) i }

pub step_only : (a b : StepAnswer) → step_told a ≡ step_told b → a ≡ b
step_only a b e = λ i.
    record {
      refusal = (e i).refusal;
      answer = (e i).answer;
      state = state_only a.state b.state (λ j. (e j).state) i;
      is_found = (e i).is_found;
      offset = (e i).offset;
    }
