-- The answers of the record test and of the search, as the records of numbers that the definitions give: a field each, in their order.
use Rattle.std.specs.Prelude.{pos}
use Rattle.record.specs.Record.{RecordTold}
use Rattle.resync.specs.Search.{SearchTold}
use Rattle.capi_records.specs.declared.records.RecordAnswer.{RecordAnswer}
use Rattle.capi_records.specs.declared.records.SearchAnswer.{SearchAnswer}

abbrev pub record_told : RecordAnswer → RecordTold
record_told r =
    record {
      refusal = r.refusal;
      is_valid = r.is_valid;
      offset = r.offset;
      ticks = r.ticks;
      outgoing = r.outgoing;
      session = r.session;
      size = r.size;
      end_byte = r.end_byte;
      kind = r.kind;
      next = r.next;
      millis = pos r.millis;
    }

abbrev pub search_told : SearchAnswer → SearchTold
search_told r = record { refusal = r.refusal; is_found = r.is_found; offset = r.offset; judged = r.judged }
