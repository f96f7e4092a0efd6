-- The whole seek: halvings down to a short span, then a walk.
use Rattle.std.specs.Prelude.{ℕ, zero, suc, ◌+◌, ◌-◌, ◌/◌, ltb, ℤ, Bool, true, false, cond, ◌&&◌, ◌≡◌, Option, None, Some, Result, Ok, Err}
use Rattle.std.specs.Int.Signed.{lt_z}
use Rattle.layout.specs.Layout.{trace_limit}
use Rattle.layout.specs.declared.TraceTooLong.{TraceTooLong}
use Rattle.span.specs.Met.{Trace, MetTold, meet, first_met}
use Rattle.seek.specs.declared.Narrowed.{Narrowed}
use Rattle.seek.specs.declared.SeekTime.{SeekTime}

-- 01: "While hi - lo exceeds 65,536"; of crossed bounds the difference is 0, and so they are walked from lo
abbrev pub wide : ℕ → ℕ → Bool
wide lo hi = ltb 65536 (hi - lo)

abbrev pub middle : ℕ → ℕ → ℕ
middle lo hi = lo + (hi - lo) / 2

-- a record was met, and it is earlier than the target
abbrev pub earlier : ℤ → MetTold → Bool
earlier target m = m.is_found && lt_z m.millis target

-- 01: "take the middle and the first record found from there: earlier than the target, lo is that record's end; otherwise or none, hi is the middle"
abbrev pub next_lo : ℤ → ℕ → MetTold → ℕ
next_lo target lo m = cond (earlier target m) m.end lo

abbrev pub next_hi : ℤ → ℕ → ℕ → MetTold → ℕ
next_hi target mid hi m = cond (earlier target m) hi mid

-- where the halvings leave the bounds, and how many there were
pub record Bracket : Type 0 where
  pub lo : ℕ
  pub hi : ℕ
  pub halvings : ℕ

abbrev pub halved_none : ℕ → ℕ → Bracket
halved_none lo hi = record { lo = lo; hi = hi; halvings = 0 }

abbrev pub counted : Bracket → Bracket
counted b = record { lo = b.lo; hi = b.hi; halvings = b.halvings + 1 }

-- the halvings. The steps are counted, and each takes at least one byte off hi - lo: as many steps as hi - lo has bytes are enough, and more
-- change nothing (`more_steps` of proofs/Halvings.antt)
unfoldable pub narrowed : (ℕ → MetTold) → ℤ → ℕ → ℕ → ℕ → Bracket
narrowed met target zero lo hi = halved_none lo hi
narrowed met target (suc k) lo hi =
    cond (wide lo hi)
    (counted (narrowed met target k (next_lo target lo (met (middle lo hi))) (next_hi target (middle lo hi) hi (met (middle lo hi)))))
    (halved_none lo hi)

-- what the code keeps of them
abbrev pub Keeps : Narrowed → Bracket → Type 0
Keeps r b = (r.lo ≡ b.lo) × (r.halvings ≡ b.halvings)

-- 01: "Then from lo, and again from each record's end, a search gives the next record, hi no longer counting, until one is not earlier
-- than the target (the answer), or none is found or the trace ends (none)". The steps are counted: as many as there are bytes
-- from the place on are enough, and more change nothing (`more_steps` of proofs/Walks.antt)
unfoldable pub walked : (ℕ → MetTold) → ℕ → ℤ → ℕ → ℕ → Option ℕ
walked met n target zero at = None
walked met n target (suc k) at =
    cond (ltb at n && (met at).is_found)
    (cond (earlier target (met at)) (walked met n target k (met at).end) (Some (met at).offset))
    None

-- what a seek answers: the refusal's number or 0, whether a record was found, its place, and the number of halvings
pub record SeekTold : Type 0 where
  pub refusal : ℕ
  pub is_found : Bool
  pub offset : ℕ
  pub halvings : ℕ

abbrev pub seek_told : ℕ → Option ℕ → SeekTold
seek_told halvings None = record { refusal = 0; is_found = false; offset = 0; halvings = halvings }
seek_told halvings (Some offset) = record { refusal = 0; is_found = true; offset = offset; halvings = halvings }

abbrev pub no_seek : SeekTold
no_seek = record { refusal = 1; is_found = false; offset = 0; halvings = 0 }

-- 01: "Seek starts with lo at the first record and hi at the length"
abbrev pub bracket : Trace → ℤ → Bracket
bracket t target = narrowed (meet t) target t.size (first_met t).offset t.size

-- 01: "Without one the whole seek gives none and 0 halvings"
unfoldable pub seek_of : Trace → ℤ → SeekTold
seek_of t target =
    cond (ltb trace_limit t.size) no_seek
    (cond (first_met t).is_found
    (seek_told (bracket t target).halvings (walked (meet t) t.size target t.size (bracket t target).lo))
    (seek_told 0 None))

-- each answer in the paper's numbers
abbrev pub told_seek : Result SeekTime TraceTooLong → SeekTold
told_seek (Ok seek) = seek_told seek.halvings seek.offset
told_seek (Err refusal) = no_seek
