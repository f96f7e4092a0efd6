-- Each answer of the record test is told in numbers of its own: two answers that tell the same are the same, so a promise about what is told determines the answer. Assumes nothing.
use lib.Dec.{eqb}
use mathlib.Core.Bool.{cond}
use mathlib.Core.Path.{◌≡◌, refl}
use Rattle.choice.proofs.Only.{only, number}
use Rattle.record.specs.Record.{RecordTold, told_record}
use Rattle.layout.specs.declared.TraceTooLong.{TraceTooLong}
use Rattle.record.specs.declared.RecordHeader.{RecordHeader}
use Rattle.std.specs.Prelude.{Option, None, Some, Result, Ok, Err}

back_record : RecordTold → Result (Option RecordHeader) TraceTooLong
back_record t =
    cond t.is_valid
    (Ok (Some
    (record {
      offset = t.offset;
      raw_ticks = t.ticks;
      is_outcome = t.outgoing;
      session_id = t.session;
      payload_len = t.size;
      end = t.end_byte;
      kind = t.kind;
      next_offset = t.next;
      unix_millis = number t.millis;
    })))
    (cond (eqb t.refusal 0) (Ok None) (Err (record {})))

same_record : (r : Result (Option RecordHeader) TraceTooLong) → back_record (told_record r) ≡ r
unfolding back_record number
same_record (Ok (Some h)) = refl
same_record (Ok None) = refl
same_record (Err refusal) = refl

pub only_record : (a b : Result (Option RecordHeader) TraceTooLong) → told_record a ≡ told_record b → a ≡ b
only_record = only told_record back_record same_record
