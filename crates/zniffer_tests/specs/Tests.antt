-- Which numbers the Zniffer's bytes may be, and the test on a parser's numbers: whether some bytes from a fresh parser leave them.
-- That the test says just this is `test_says_left` of zniffer_laws/proofs/Theorems.antt.
use Rattle.std.specs.Prelude.{ℕ, ◌%◌, ltb, leb, eqb, Bool, not, ◌&&◌, ◌||◌}
use Rattle.zniffer_numbers.specs.declared.Core.{Core}

-- "Command ids are 1, 2, 3, 4, 5, 14, 19"
abbrev pub command_ok : ℕ → Bool
command_ok b = (leb 1 b && leb b 5) || (eqb b 14 || eqb b 19)

-- "A frame is type 1, 2, 4 or 5"
abbrev pub type_ok : ℕ → Bool
type_ok b = (leb 1 b && leb b 2) || (leb 4 b && leb b 5)

-- "Regions accepted: 0 to 3, 5 to 9, 11, 32, 33"
abbrev pub region_ok : ℕ → Bool
region_ok b = (leb b 3 || (leb 5 b && leb b 9)) || (eqb b 11 || (eqb b 32 || eqb b 33))

-- the numbers that are still zero: the payload's; a frame's from its region on, from its channel on, all
abbrev pub unfilled : Core → Bool
unfilled c = eqb c.length 0 && eqb c.count 0

abbrev pub no_region : Core → Bool
no_region c = eqb c.region 0 && eqb c.rssi 0

abbrev pub no_channel : Core → Bool
no_channel c = (eqb c.channel 0 && eqb c.speed 0) && no_region c

abbrev pub no_frame : Core → Bool
no_frame c = (eqb c.frame_type 0 && (eqb c.timestamp 0 && not c.timestamp_state)) && no_channel c

-- a frame with its type and no more than the first byte of its timestamp; with both; with its channel and speed; with its region
abbrev pub typed : Core → Bool
typed c = type_ok c.frame_type && ((c.timestamp_state && eqb (c.timestamp % 256) 0) || (not c.timestamp_state && eqb c.timestamp 0))

abbrev pub timed : Core → Bool
timed c = type_ok c.frame_type && not c.timestamp_state

abbrev pub placed : Core → Bool
placed c = timed c && (ltb c.channel 8 && ltb c.speed 32)

abbrev pub framed : Core → Bool
framed c = placed c && region_ok c.region

-- no command's id, and all else zero; a command's id, or a whole frame's header
abbrev pub quiet : Core → Bool
quiet c = eqb c.command_id 0 && no_frame c

abbrev pub headed : Core → Bool
headed c = (command_ok c.command_id && no_frame c) || (eqb c.command_id 0 && framed c)

-- what the numbers are in each state: 0, 1 and 4 have nothing yet; 2 has a header; 5 to 10 have a frame's header so far; 3 has a header, and less than the whole payload
abbrev pub reachable_of : Core → Bool
reachable_of c =
    (((eqb c.state 0 || (eqb c.state 1 || eqb c.state 4)) && (quiet c && unfilled c))
    || ((eqb c.state 2 && (headed c && unfilled c))
    || ((eqb c.state 5 && (eqb c.command_id 0 && ((typed c && no_channel c) && unfilled c)))
    || ((eqb c.state 6 && (eqb c.command_id 0 && ((timed c && no_channel c) && unfilled c)))
    || ((eqb c.state 7 && (eqb c.command_id 0 && ((placed c && no_region c) && unfilled c)))
    || ((eqb c.state 8 && (eqb c.command_id 0 && ((framed c && eqb c.rssi 0) && unfilled c)))
    || (((eqb c.state 9 || eqb c.state 10) && (eqb c.command_id 0 && (framed c && unfilled c)))
    || (eqb c.state 3 && (headed c && ltb c.count c.length)))))))))
