-- The figures that document 01 marks P, with its numbers, and what it is for each of them to hold: over the definitions that the public functions are proved equal to.
use Rattle.std.specs.Prelude.{ℕ, ℤ, pos, neg_ℤ, length, take, drop, Bool, true, false, List, [], ◌∷◌, map, ◌≡◌}
use Rattle.record.specs.Record.{length_in}
use Rattle.ticks.specs.Ticks.{unix_millis}
use Rattle.bracket.specs.Bracket.{Piece, bodies}
use Rattle.beam.specs.Beam.{beam_count}
use Rattle.speed.specs.Speed.{speed_for}
use Rattle.zniffer_numbers.specs.declared.ParserResult.{ParserResult}
use Rattle.zniffer_numbers.specs.declared.ParserResult.TheVariants.{ValidFrame}
use Rattle.zniffer.specs.Parse.{fresh_parser, run_from}

-- a kind of figure for each of 01's lines
pub data Figure : Type 0 where
  -- a record's length passes the length condition alone, or does not
  length_passes : ℕ → Bool → Figure
  -- ticks and their milliseconds
  ticks_give : ℕ → ℤ → Figure
  -- a payload and the bytes of its bodies
  splits_into : List ℕ → List (List ℕ) → Figure
  -- the Zniffer's bytes, and the frame that they are: time, channel, speed, region, RSSI, payload
  is_frame : List ℕ → ℕ → ℕ → ℕ → ℕ → ℕ → List ℕ → Figure
  -- channel and region to speed
  speed_is : ℕ → ℕ → ℕ → Figure
  -- a beam's bytes and its count, at pattern 3
  beams : List ℕ → ℕ → Figure

abbrev bytes_of : List ℕ → Piece → List ℕ
bytes_of payload p = take p.len (drop p.at payload)

-- what a fresh parser answers: the result, the first so many bytes of the payload that it hands out, and how many bytes were used
pub record Read : Type 0 where
  pub result : ParserResult
  pub payload : List ℕ
  pub used : ℕ

abbrev pub read : ℕ → List ℕ → Read
read n bytes = record { result = (run_from 0 bytes fresh_parser).out.answer.result; payload = take n (run_from 0 bytes fresh_parser).out.answer.payload; used = (run_from 0 bytes fresh_parser).out.used }

abbrev pub Holds : Figure → Type 0
Holds (length_passes n passes) = length_in n ≡ passes
Holds (ticks_give t ms) = unix_millis t ≡ ms
Holds (splits_into payload parts) = map (bytes_of payload) (bodies payload) ≡ parts
Holds (is_frame bytes time channel speed region rssi payload) =
    read (length payload) bytes ≡ record { result = ValidFrame time channel speed region rssi (length payload); payload = payload; used = length bytes }
Holds (speed_is channel region speed) = speed_for channel region ≡ speed
Holds (beams bytes n) = beam_count 3 bytes ≡ n

infixr 5 ◌and◌
-- each figure of a list holds
pub data AllHold : List Figure → Type 0 where
  all : AllHold []
  ◌and◌ : {f : Figure} {fs : List Figure} → Holds f → AllHold fs → AllHold (f ∷ fs)

-- "P, of the length condition alone: 1 and 1,048,576 pass, 0 and 1,048,577 do not."
-- "P: ticks 621355967999999999 give 0; 621355967999990000 gives -1."
-- "P: 5B 02 00 5D gives nothing; 5B 03 00 02 5D gives body 02."
-- "P: 21 01 12 34 43 00 C4 21 03 02 AA BB is a frame: time 4660, channel 2, speed 3, region 0, RSSI 196."
-- "P: channel, region to speed: 1,1 is 1; 0,1 is 2; 3,12 is 3; 3,1 is 0."
-- "P: beams at pattern 3: 55 01 is 1; 55 01 02 00 55 01 02 is 2."
abbrev pub marked : List Figure
marked =
    length_passes 1 true
    ∷ length_passes 1048576 true
    ∷ length_passes 0 false
    ∷ length_passes 1048577 false
    ∷ ticks_give 621355967999999999 (pos 0)
    ∷ ticks_give 621355967999990000 (neg_ℤ (pos 1))
    ∷ splits_into (0x5B ∷ 0x02 ∷ 0x00 ∷ 0x5D ∷ []) []
    ∷ splits_into (0x5B ∷ 0x03 ∷ 0x00 ∷ 0x02 ∷ 0x5D ∷ []) ((0x02 ∷ []) ∷ [])
    ∷ is_frame (0x21 ∷ 0x01 ∷ 0x12 ∷ 0x34 ∷ 0x43 ∷ 0x00 ∷ 0xC4 ∷ 0x21 ∷ 0x03 ∷ 0x02 ∷ 0xAA ∷ 0xBB ∷ []) 4660 2 3 0 196 (0xAA ∷ 0xBB ∷ [])
    ∷ speed_is 1 1 1
    ∷ speed_is 0 1 2
    ∷ speed_is 3 12 3
    ∷ speed_is 3 1 0
    ∷ beams (0x55 ∷ 0x01 ∷ []) 1
    ∷ beams (0x55 ∷ 0x01 ∷ 0x02 ∷ 0x00 ∷ 0x55 ∷ 0x01 ∷ 0x02 ∷ []) 2
    ∷ []
