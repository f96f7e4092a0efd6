-- A row of the wall chart: 02, request 4, "channel across, region down, regions 0 to 31, channels 0 to 3".
use Rattle.std.specs.Prelude.{ℕ, List, [], ◌∷◌}
use Rattle.speed.specs.Speed.{speed_for}

-- a region's speeds on the channels 0 to 3
abbrev pub row_for : ℕ → List ℕ
row_for region = speed_for 0 region ∷ speed_for 1 region ∷ speed_for 2 region ∷ speed_for 3 region ∷ []
