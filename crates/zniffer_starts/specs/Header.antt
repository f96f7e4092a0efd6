-- A whole header at the start of some bytes: the numbers that it leaves of a fresh parser, and how many bytes it has. Where there is none, a fresh parser's numbers and 0.
use Rattle.std.specs.Prelude.{ℕ, ◌+◌, ◌*◌, ◌/◌, ◌%◌, leb, eqb, length, get_or, Bool, false, not, ◌&&◌, cond, List}
use Rattle.zniffer_numbers.specs.Numbers.{core, fresh_core}
use Rattle.zniffer_tests.specs.Tests.{command_ok, type_ok, region_ok}
use Rattle.zniffer_starts.specs.declared.headers.Head.{Head}

abbrev pub no_head : Head
no_head = record { core = fresh_core; size = 0 }

-- a command's, after its start: an id, "then length, payload", and the length is not 0
abbrev pub command_heads : ℕ → ℕ → Bool
command_heads i n = command_ok i && not (eqb n 0)

abbrev pub command_head : ℕ → ℕ → Head
command_head i n = cond (command_heads i n) (record { core = core 3 i n 0 0 0 false 0 0 0 0; size = 3 }) no_head

-- a frame's, after its start: type; "timestamp, high byte first; one byte of channel (top three bits) and speed (low five); region; RSSI; 0x21; 0x03; length", and the length is not 0
abbrev pub frame_heads : ℕ → ℕ → ℕ → ℕ → ℕ → Bool
frame_heads t g y z n = type_ok t && (region_ok g && (eqb y 0x21 && (eqb z 0x03 && not (eqb n 0))))

abbrev pub frame_head : ℕ → ℕ → ℕ → ℕ → ℕ → ℕ → ℕ → ℕ → ℕ → Head
frame_head t h l p g r y z n = cond (frame_heads t g y z n) (record { core = core 3 0 n 0 t (h * 256 + l) false (p / 32) (p % 32) g r; size = 10 }) no_head

unfoldable pub head_of : List ℕ → Head
head_of s =
    cond (leb 3 (length s) && eqb (get_or s 0 0) 0x23) (command_head (get_or s 1 0) (get_or s 2 0))
    (cond (leb 10 (length s) && eqb (get_or s 0 0) 0x21) (frame_head (get_or s 1 0) (get_or s 2 0) (get_or s 3 0) (get_or s 4 0) (get_or s 5 0) (get_or s 6 0) (get_or s 7 0) (get_or s 8 0) (get_or s 9 0))
    no_head)
