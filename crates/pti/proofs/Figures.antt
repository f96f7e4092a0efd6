-- A worked example beside those that document 01 marks P, by computation. Assumes nothing.
use lib.IntN.{negsuc}
use lib.ListN.{replicate}
use mathlib.Core.List.{[], ◌∷◌, ◌++◌}
use mathlib.Core.Path.{◌≡◌, refl}
use Rattle.std.specs.Prelude.{Some}
use Rattle.pti.specs.Frame.{parts_of, sided_of, tagged_of, frame_of}
use Rattle.speed.specs.Speed.{among, speed_for}

-- the body of the record of `trace-list`
pub one_frame : frame_of ((0x02 ∷ replicate 10 0x00) ++ 0xF8 ∷ 0xAA ∷ 0xBB ∷ 0xF9 ∷ 0xC4 ∷ 0x01 ∷ 0x01 ∷ 0x06 ∷ 0x00 ∷ [])
    ≡ Some
    (record { direction = 0; region = 1; channel = 1; speed = 1; rssi = negsuc 59; beam_count = 0; mpdu = 12; mpdu_len = 2 })
unfolding frame_of tagged_of sided_of parts_of speed_for among
one_frame = refl
