-- Commands and frames as bytes, and what it is that a fresh parser gives them back.
use Rattle.std.specs.Prelude.{ℕ, length, drop, List, ◌∷◌, ◌++◌}
use Rattle.zniffer_numbers.specs.declared.ParserResult.{ParserResult}
use Rattle.zniffer.specs.Parse.{zeros, fresh_parser}
use Rattle.zniffer.specs.declared.parser.Ran.{Ran}

-- 0x23, the id, the length, the payload
abbrev pub command_bytes : ℕ → List ℕ → List ℕ
command_bytes i bytes = 0x23 ∷ i ∷ length bytes ∷ bytes

-- 0x21, the type, the timestamp's high and low byte, channel and speed, region, RSSI, 0x21, 0x03, the length, the payload
abbrev pub frame_bytes : ℕ → ℕ → ℕ → ℕ → ℕ → ℕ → List ℕ → List ℕ
frame_bytes t h l k g r bytes = 0x21 ∷ t ∷ h ∷ l ∷ k ∷ g ∷ r ∷ 0x21 ∷ 0x03 ∷ length bytes ∷ bytes

-- the result with its payload, zeros after it; every byte of s used; and a fresh parser
abbrev pub given_back : List ℕ → ParserResult → List ℕ → Ran
given_back s result bytes = record { parser = fresh_parser; out = record { answer = record { result = result; payload = bytes ++ drop (length bytes) zeros }; used = length s } }
