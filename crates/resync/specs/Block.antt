-- What a search passes over, a block of offsets at a time. No promise of a public function cites these.
use Rattle.std.specs.Prelude.{ℕ, ◌%◌, ◌≤◌, ◌<◌, eqb, Bool, false, ◌&&◌, ◌||◌, List, ◌≡◌}
use Rattle.record.specs.Record.{plausible, valid}

-- how many offsets are looked at together
abbrev pub block : ℕ
block = 32

-- whether the highest byte of the ticks can be that of a valid record, its top two bits cleared
abbrev pub may_ticks : ℕ → Bool
may_ticks ticks = eqb (ticks % 64) 8 || eqb (ticks % 64) 9

-- and the highest byte of the length with it
abbrev pub may_begin : ℕ → ℕ → Bool
may_begin ticks size = may_ticks ticks && eqb size 0

-- whatever the kinds, no valid record begins from one offset on and below another
abbrev pub none_valid : List ℕ → ℕ → ℕ → Type 0
none_valid s from to = (kinds : List ℕ) (k : ℕ) → from ≤ k → k < to → valid plausible kinds s k ≡ false

-- an offset from `start` on and `limit` at most: no valid record begins at those passed over
abbrev pub passed_to : List ℕ → ℕ → ℕ → ℕ → Type 0
passed_to s start limit offset = (start ≤ offset) × ((offset ≤ limit) × none_valid s start offset)
