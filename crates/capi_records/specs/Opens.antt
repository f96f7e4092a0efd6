-- The answers of opening and of the next record in sequence, as the records of numbers that the definitions give: a field each, in their order.
use Rattle.std.specs.Prelude.{ℕ}
use Rattle.seam.specs.Opening.{OpeningTold as CursorTold}
use Rattle.reader.specs.Opening.{OpeningTold as ReaderTold}
use Rattle.reader.specs.Next.{NextTold}
use Rattle.reader.specs.declared.ZlfReader.{ZlfReader}
use Rattle.capi_records.specs.declared.opens.CursorOpening.{CursorOpening}
use Rattle.capi_records.specs.declared.opens.SequenceOpening.{SequenceOpening}
use Rattle.capi_records.specs.declared.opens.NextRecord.{NextRecord}

abbrev pub opening_told : CursorOpening → CursorTold
opening_told r = record { refusal = r.refusal; version = r.version }

abbrev pub sequence_told : SequenceOpening → ReaderTold
sequence_told r = record { refusal = r.refusal; version = r.version; place = r.place; count = r.count }

abbrev pub next_told : NextRecord → NextTold
next_told r =
    record {
      refusal = r.refusal;
      is_record = r.is_record;
      offset = r.offset;
      ticks = r.ticks;
      outgoing = r.outgoing;
      session = r.session;
      end_byte = r.end_byte;
      kind = r.kind;
      payload = r.payload;
      size = r.size;
      negative = r.negative;
      place = r.place;
      count = r.count;
    }

-- the reader that a caller hands in as two numbers
abbrev pub reader_at : ℕ → ℕ → ZlfReader
reader_at place count = record { place = place; count = count }
