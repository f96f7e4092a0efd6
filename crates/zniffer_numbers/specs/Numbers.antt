-- The numbers of a parser, and which results want more bytes.
use Rattle.std.specs.Prelude.{ℕ, Bool, true, false}
use Rattle.zniffer_numbers.specs.declared.Core.{Core}
use Rattle.zniffer_numbers.specs.declared.ParserResult.{ParserResult}
use Rattle.zniffer_numbers.specs.declared.ParserResult.TheVariants.{ValidCommand, ValidFrame, IncompleteFrame, InvalidFrame}

-- the fields in their order: state, command, length and count of the payload; type, timestamp, and whether that lacks its low byte; channel, speed, region, RSSI
abbrev pub core : ℕ → ℕ → ℕ → ℕ → ℕ → ℕ → Bool → ℕ → ℕ → ℕ → ℕ → Core
core s i l n t w h c v g r = record { state = s; command_id = i; length = l; count = n; frame_type = t; timestamp = w; timestamp_state = h; channel = c; speed = v; region = g; rssi = r }

-- "fresh (idle, all else zero)"
abbrev pub fresh_core : Core
fresh_core = core 0 0 0 0 0 0 false 0 0 0 0

-- whether more bytes are wanted
abbrev pub goes_on : ParserResult → Bool
goes_on IncompleteFrame = true
goes_on InvalidFrame = false
goes_on (ValidCommand i n) = false
goes_on (ValidFrame w k v g r n) = false
