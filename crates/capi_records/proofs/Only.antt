-- A promise determines its answer: two answers that are told as the same record of numbers are equal. Assumes nothing.
use lib.IntN.{nat_abs}
use mathlib.Core.Path.{◌≡◌}
use Rattle.capi_records.specs.Opens.{opening_told, sequence_told, next_told}
use Rattle.capi_records.specs.Records.{record_told, search_told}
use Rattle.capi_records.specs.declared.opens.CursorOpening.{CursorOpening}
use Rattle.capi_records.specs.declared.opens.SequenceOpening.{SequenceOpening}
use Rattle.capi_records.specs.declared.opens.NextRecord.{NextRecord}
use Rattle.capi_records.specs.declared.records.RecordAnswer.{RecordAnswer}
use Rattle.capi_records.specs.declared.records.SearchAnswer.{SearchAnswer}

pub opening_only : (a b : CursorOpening) → opening_told a ≡ opening_told b → a ≡ b
opening_only a b e = λ i. record { refusal = (e i).refusal; version = (e i).version }

pub sequence_only : (a b : SequenceOpening) → sequence_told a ≡ sequence_told b → a ≡ b
sequence_only a b e = λ i. record { refusal = (e i).refusal; version = (e i).version; place = (e i).place; count = (e i).count }

pub next_only : (a b : NextRecord) → next_told a ≡ next_told b → a ≡ b
next_only a b e = λ i.
    record {
      refusal = (e i).refusal;
      is_record = (e i).is_record;
      offset = (e i).offset;
      ticks = (e i).ticks;
      outgoing = (e i).outgoing;
      session = (e i).session;
      end_byte = (e i).end_byte;
      kind = (e i).kind;
      payload = (e i).payload;
      size = (e i).size;
      negative = (e i).negative;
      place = (e i).place;
      count = (e i).count;
    }

pub record_only : (a b : RecordAnswer) → record_told a ≡ record_told b → a ≡ b
record_only a b e = λ i.
    record {
      refusal = (e i).refusal;
      is_valid = (e i).is_valid;
      offset = (e i).offset;
      ticks = (e i).ticks;
      outgoing = (e i).outgoing;
      session = (e i).session;
      size = (e i).size;
      end_byte = (e i).end_byte;
      kind = (e i).kind;
      next = (e i).next;
      millis = nat_abs (e i).millis;
    }

pub search_only : (a b : SearchAnswer) → search_told a ≡ search_told b → a ≡ b
search_only a b e = λ i. record { refusal = (e i).refusal; is_found = (e i).is_found; offset = (e i).offset; judged = (e i).judged }
