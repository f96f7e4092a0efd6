-- The answers of one body's frame and of the parser, as structs of numbers.
use Rattle.std.specs.Prelude.{pos, true, false, Option, None, Some}
use Rattle.pti.specs.declared.PtiFrame.{PtiFrame}
use Rattle.zniffer_numbers.specs.Told.{Told, told}
use Rattle.zniffer.specs.declared.parser.Used.{Used}
use Rattle.capi_frames.specs.declared.frames.FrameAnswer.{FrameAnswer}
use Rattle.capi_frames.specs.declared.frames.ParsedBytes.{ParsedBytes}
use Rattle.capi_frames.specs.declared.frames.ResultNumbers.{ResultNumbers}

abbrev pub framed : PtiFrame → FrameAnswer
framed f =
    record {
      is_frame = true;
      direction = f.direction;
      region = f.region;
      channel = f.channel;
      speed = f.speed;
      rssi = f.rssi;
      beam_count = f.beam_count;
      mpdu = f.mpdu;
      mpdu_len = f.mpdu_len;
    }

-- what is not said is 0
abbrev pub no_frame : FrameAnswer
no_frame =
    record {
      is_frame = false;
      direction = 0;
      region = 0;
      channel = 0;
      speed = 0;
      rssi = pos 0;
      beam_count = 0;
      mpdu = 0;
      mpdu_len = 0;
    }

abbrev pub frame_answer : Option PtiFrame → FrameAnswer
frame_answer (Some f) = framed f
frame_answer None = no_frame

-- a result's numbers: a field each of what a result is told as, in its order
abbrev pub numbers_of : Told → ResultNumbers
numbers_of t =
    record {
      which = t.which;
      id = t.id;
      timestamp = t.timestamp;
      channel = t.channel;
      speed = t.speed;
      region = t.region;
      rssi = t.rssi;
      length = t.length;
    }

abbrev pub parsed_of : Used → ParsedBytes
parsed_of u = record { result = numbers_of (told u.answer.result); used = u.used; payload = u.answer.payload }
