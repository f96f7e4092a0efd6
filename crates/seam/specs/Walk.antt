-- A walk over records that follow one another, by a record test: a function that gives at a place the place after its valid record, or none.
use Rattle.std.specs.Prelude.{ℕ, zero, suc, Option, None, Some}

-- what to make of a record test's answer: where there is no record, and from the place after the record
abbrev pub or_else : {A : Type 0} → Option ℕ → A → (ℕ → A) → A
or_else None a f = a
or_else (Some m) a f = f m

-- what the records from a place on come to, so many of them at most: `each` says what the record at a place makes of what comes after it, and
-- `end` what a place without a valid record gives. A trace has no more records than bytes, so that its length is turns enough (`enough` of
-- proofs/Walks.antt)
unfoldable pub walk : {A : Type 0} → (ℕ → Option ℕ) → (ℕ → A) → (ℕ → A → A) → ℕ → ℕ → A
walk next end each zero at = end at
walk next end each (suc turns) at = or_else (next at) (end at) (λ (m : ℕ). each at (walk next end each turns m))
