-- Bytes that an idle parser ignores.
use Rattle.std.specs.Prelude.{ℕ, ◌+◌, eqb, Bool, true, not, ◌&&◌, ◌||◌, cond, fold, List, [], ◌∷◌}

-- "Idle ignores all but 0x23 (command) and 0x21 (frame)"
abbrev pub starts : ℕ → Bool
starts b = eqb b 0x23 || eqb b 0x21

-- no byte starts anything
abbrev pub all_quiet : List ℕ → Bool
all_quiet s = fold (λ quiet b. quiet && not (starts b)) true s

-- how many are ignored at the start
unfoldable pub idle_of : List ℕ → ℕ
idle_of [] = 0
idle_of (b ∷ bs) = cond (starts b) 0 (idle_of bs + 1)
