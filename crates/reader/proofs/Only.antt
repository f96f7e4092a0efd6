-- An answer is determined by what is told of it: from the paper's numbers the answer can be made again. Assumes nothing.
use lib.Dec.{eqb}
use mathlib.Core.Bool.{cond}
use mathlib.Core.Path.{◌≡◌, refl}
use Rattle.choice.proofs.Only.{only}
use Rattle.std.specs.Prelude.{Option, None, Some, Result, Ok, Err}
use Rattle.reader.specs.declared.ZlfReader.{ZlfReader}
use Rattle.reader.specs.declared.Next.{Next}
use Rattle.reader.specs.declared.Opened.{Opened}
use Rattle.reader.specs.declared.OpenError.{OpenError}
use Rattle.reader.specs.declared.OpenError.TheVariants as O
use Rattle.reader.specs.declared.ReadError.{ReadError}
use Rattle.reader.specs.declared.ReadError.TheVariants as N
use Rattle.reader.specs.Opening.{OpeningTold, told_opening}
use Rattle.reader.specs.Next.{NextTold, told_next}
use Rattle.reader.specs.Whole.{onward}

opening_of : OpeningTold → Result Opened OpenError
opening_of t =
    cond (eqb t.refusal 0) (Ok (record { version = t.version; reader = record { place = t.place; count = t.count } }))
    (cond (eqb t.refusal 1) (Err O.TraceTooLong)
    (cond (eqb t.refusal 2) (Err O.TraceTooShort)
    (cond (eqb t.refusal 3) (Err O.InvalidHeaderChecksum) (Err (O.InvalidZlfVersion t.version)))))

opening_again : (a : Result Opened OpenError) → opening_of (told_opening a) ≡ a
unfolding opening_of
opening_again (Ok o) = refl
opening_again (Err O.TraceTooLong) = refl
opening_again (Err O.TraceTooShort) = refl
opening_again (Err O.InvalidHeaderChecksum) = refl
opening_again (Err (O.InvalidZlfVersion v)) = refl

pub only_opening : (a b : Result Opened OpenError) → told_opening a ≡ told_opening b → a ≡ b
only_opening = only told_opening opening_of opening_again

-- an answer to a step
answer_of : NextTold → Result (Option Next) ReadError
answer_of t =
    cond t.is_record
    (Ok (Some
    (record {
      «record» = record {
        offset = t.offset;
        raw_ticks = t.ticks;
        is_outcome = t.outgoing;
        session_id = t.session;
        end = t.end_byte;
        kind = t.kind;
        payload_offset = t.payload;
        payload_len = t.size;
      };
      reader = onward t;
    })))
    (cond (eqb t.refusal 0) (Ok None)
    (cond (eqb t.refusal 1) (Err N.TraceTooLong)
    (cond (eqb t.refusal 8) (Err (N.InvalidPayloadLength t.negative))
    (cond (eqb t.refusal 9) (Err N.EofInHead) (Err N.EofInPayload)))))

answer_again : (r : ZlfReader) (a : Result (Option Next) ReadError) → answer_of (told_next r a) ≡ a
unfolding answer_of
answer_again r (Ok (Some n)) = refl
answer_again r (Ok None) = refl
answer_again r (Err N.TraceTooLong) = refl
answer_again r (Err (N.InvalidPayloadLength z)) = refl
answer_again r (Err N.EofInHead) = refl
answer_again r (Err N.EofInPayload) = refl

pub only_next : (r : ZlfReader) (a b : Result (Option Next) ReadError) → told_next r a ≡ told_next r b → a ≡ b
only_next r = only (told_next r) answer_of (answer_again r)
