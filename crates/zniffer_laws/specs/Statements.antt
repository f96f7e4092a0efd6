-- What the laws of proofs/Theorems.antt are stated with, beside the definitions that the contracts cite.
use Rattle.std.specs.Prelude.{ℕ, ◌<◌, ◌≤◌, ◌-◌, length, get_or, take, drop, List, ◌≡◌}
use Rattle.zniffer_numbers.specs.Numbers.{fresh_core}
use Rattle.zniffer_states.specs.Step.{take_of}
use Rattle.zniffer.specs.Parse.{core_of, fresh_parser, with_byte, settle}
use Rattle.zniffer_numbers.specs.declared.Core.{Core}
use Rattle.zniffer_core.specs.declared.CoreRan.{CoreRan}
use Rattle.zniffer_numbers.specs.declared.ParserResult.{ParserResult}
use Rattle.zniffer_numbers.specs.declared.ParserResult.TheVariants.{ValidCommand, ValidFrame, IncompleteFrame, InvalidFrame}
use Rattle.zniffer.specs.declared.parser.Answer.{Answer}
use Rattle.zniffer.specs.declared.parser.Parsed.{Parsed}
use Rattle.zniffer.specs.declared.parser.Parser.{Parser}
use Rattle.zniffer.specs.declared.parser.Ran.{Ran}

-- a run's numbers
abbrev pub numbers : Ran → CoreRan
numbers r = record { core = core_of r.parser; result = r.out.answer.result; used = r.out.used }

-- how long the payload of a result is: 0 where it has none
abbrev pub length_of : ParserResult → ℕ
length_of IncompleteFrame = 0
length_of InvalidFrame = 0
length_of (ValidCommand i n) = n
length_of (ValidFrame w k v g r n) = n

-- one byte by its state alone, without the test on the parser's numbers
abbrev pub plain_step : Parser → ℕ → Parsed
plain_step p b = settle (take_of (core_of p) b).core (with_byte (core_of p) p.payload b) (take_of (core_of p) b).result

-- the numbers, and the parsers, that some bytes from a fresh one leave
pub data Reached : Core → Type 0 where
  fresh_core_lem : Reached fresh_core
  byte_more : {c : Core} → Reached c → (b : ℕ) → b < 256 → Reached (take_of c b).core

pub data Left : Parser → Type 0 where
  fresh : Left fresh_parser
  more : {p : Parser} → Left p → (b : ℕ) → b < 256 → Left (plain_step p b).parser

-- parsers that are alike: "unused payload places not looked at"
pub record Alike (p q : Parser) : Type 0 where
  pub numbers : core_of p ≡ core_of q
  pub bytes : take p.count p.payload ≡ take p.count q.payload

-- what the types `u8`, `u16` and `[u8; 255]` of the fields say
pub record InType (c : Core) : Type 0 where
  pub command : c.command_id < 256
  pub length : c.length < 256
  pub type : c.frame_type < 256
  pub timestamp : c.timestamp < 65536
  pub region : c.region < 256
  pub rssi : c.rssi < 256

pub record Bytes (l : List ℕ) : Type 0 where
  pub long : length l ≡ 255
  pub each : (k : ℕ) → get_or l k 0 < 256

-- the payload that an answer hands out is the part of s that ends where the bytes used end
pub record EndsThere (s : List ℕ) (a : Answer) (used : ℕ) : Type 0 where
  pub within : used ≤ length s
  pub fits : length_of a.result ≤ used
  pub bytes : take (length_of a.result) a.payload ≡ take (length_of a.result) (drop (used - length_of a.result) s)
