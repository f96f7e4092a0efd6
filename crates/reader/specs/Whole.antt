-- A whole read in sequence: what the steps from a reader on answer, one after another.
use Rattle.std.specs.Prelude.{ℕ, zero, suc, ◌-◌, length, true, false, cond, List, [], ◌∷◌, ◌≡◌}
use Rattle.reader.specs.declared.ZlfReader.{ZlfReader}
use Rattle.reader.specs.Next.{NextTold, next_of}

-- the reader that an answer gives back
abbrev pub onward : NextTold → ZlfReader
onward t = record { place = t.place; count = t.count }

-- the answers of a whole read: after a record it goes on with the reader given back, and what is no record, the end or a refusal, is the last
pub data Read (kinds s : List ℕ) : ZlfReader → List NextTold → Type 0 where
  stops : {r : ZlfReader} → (next_of kinds s r).is_record ≡ false → Read kinds s r (next_of kinds s r ∷ [])
  goes : {r : ZlfReader} {l : List NextTold} → (next_of kinds s r).is_record ≡ true → Read kinds s (onward (next_of kinds s r)) l
      → Read kinds s r (next_of kinds s r ∷ l)

-- the same as a function, in at most n + 1 steps
unfoldable pub read_some : ℕ → List ℕ → List ℕ → ZlfReader → List NextTold
read_some zero kinds s r = next_of kinds s r ∷ []
read_some (suc n) kinds s r =
    cond (next_of kinds s r).is_record
    (next_of kinds s r ∷ read_some n kinds s (onward (next_of kinds s r)))
    (next_of kinds s r ∷ [])

-- as many steps as there are bytes after the place, and one; that they are enough is `enough` of proofs/Laws.antt
abbrev pub read_all : List ℕ → List ℕ → ZlfReader → List NextTold
read_all kinds s r = read_some (length s - r.place) kinds s r
