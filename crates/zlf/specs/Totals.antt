-- What a trace holds by kind: sums over the valid records that follow one another from a place on, up to the last byte or the first place without one.
use Rattle.std.specs.Prelude.{ℕ, ◌+◌, eqb, length, cond, List}
use Rattle.layout.specs.Fields.{kind_at}
use Rattle.layout.specs.Layout.{header_size}
use Rattle.record.specs.Record.{plausible, next_at}
use Rattle.rows.specs.Rows.{rows_at}
use Rattle.seam.specs.Walk.{walk}
use Rattle.zlf.specs.declared.info.Count.{Count}

-- what the record at a place adds to a kind's sum, before that of the records after it
abbrev pub adding : List ℕ → List ℕ → ℕ → (ℕ → ℕ) → ℕ → ℕ → ℕ
adding kinds s kind each at rest = cond (eqb (kind_at kinds s at) kind) (each at) 0 + rest

-- the sum of what each record of a kind counts
unfoldable pub total_of : List ℕ → List ℕ → ℕ → (ℕ → ℕ) → ℕ → ℕ
total_of kinds s kind each at = walk (next_at plausible kinds s) (λ (end : ℕ). 0) (adding kinds s kind each) (length s) at

-- a record counts one, and a frame is a row
abbrev pub records_of : List ℕ → List ℕ → ℕ → ℕ → ℕ
records_of kinds s kind at = total_of kinds s kind (λ (place : ℕ). 1) at

abbrev pub frames_of : List ℕ → List ℕ → ℕ → ℕ → ℕ
frames_of kinds s kind at = total_of kinds s kind (λ (place : ℕ). length (rows_at kinds s place)) at

-- what a trace holds of a kind, up to the last byte or the first place without a valid record; and nothing of it
abbrev pub count_of : List ℕ → List ℕ → ℕ → Count
count_of kinds s kind = record { records = records_of kinds s kind header_size; frames = frames_of kinds s kind header_size }

abbrev pub nothing : Count
nothing = record { records = 0; frames = 0 }
