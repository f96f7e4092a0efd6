-- The seam check, over a record test: a function that gives at a place the place after its valid record, or none.
use Rattle.std.specs.Prelude.{ℕ, suc, ◌+◌, ◌<◌, ltb, eqb, length, Bool, true, false, cond, ◌||◌, List, ◌≡◌, Option, None, Some, Result, Ok, Err}
use Rattle.layout.specs.Layout.{header_size, trace_limit}
use Rattle.seam.specs.Walk.{walk}
use Rattle.resync.specs.Boundary.{after}
use Rattle.record.specs.Record.{Limits, next_at}
use Rattle.seam.specs.declared.Seam.{Seam}
use Rattle.seam.specs.declared.Seam.TheVariants.{Unbroken as UnbrokenAnswer, Broken as BrokenAnswer}
use Rattle.seam.specs.declared.SeamError.{SeamError}
use Rattle.seam.specs.declared.SeamError.TheVariants.{TraceTooLong, PlaceOutside}

-- k valid records follow one another from a place to the last byte of the n
pub data Unbroken (next : ℕ → Option ℕ) (n : ℕ) : ℕ → ℕ → Type 0 where
  ends : Unbroken next n n 0
  more : {at m k : ℕ} → next at ≡ Some m → Unbroken next n m k → Unbroken next n at (suc k)

-- k valid records lead from a place to another before the last byte, where there is none
pub record Broken (next : ℕ → Option ℕ) (n at place k : ℕ) : Type 0 where
  pub run : after next k at ≡ Some place
  pub stops : next place ≡ None
  pub before_end : place < n

-- where the records that follow one another from a place end, and how many they are
pub record Reached : Type 0 where
  pub place : ℕ
  pub records : ℕ

abbrev pub reached : ℕ → ℕ → Reached
reached place records = record { place = place; records = records }

abbrev pub one_more : ℕ → Reached → Reached
one_more at r = reached r.place (r.records + 1)

unfoldable pub reach : (ℕ → Option ℕ) → ℕ → ℕ → Reached
reach next n at = walk next (λ (end : ℕ). reached end 0) one_more n at

-- what the check answers: the refusal's number or 0, whether it is unbroken, the first offset without a valid record where it is broken, and
-- the number of records
pub record SeamTold : Type 0 where
  pub refusal : ℕ
  pub is_unbroken : Bool
  pub place : ℕ
  pub records : ℕ

abbrev pub unbroken_with : ℕ → SeamTold
unbroken_with k = record { refusal = 0; is_unbroken = true; place = 0; records = k }

abbrev pub broken_at : ℕ → ℕ → SeamTold
broken_at place k = record { refusal = 0; is_unbroken = false; place = place; records = k }

abbrev pub seam_refused : ℕ → SeamTold
seam_refused n = record { refusal = n; is_unbroken = false; place = 0; records = 0 }

-- 01: "answers unbroken with the number of records, or broken with the first offset without a valid record and the number before it"
abbrev pub seam_of : ℕ → Reached → SeamTold
seam_of n r = cond (eqb r.place n) (unbroken_with r.records) (broken_at r.place r.records)

-- over a record test and the trace's length n. Refusal 6: "seam check, place below 2,048 or above the length"
unfoldable pub seam_from : (ℕ → Option ℕ) → ℕ → ℕ → SeamTold
seam_from next n at =
    cond (ltb trace_limit n) (seam_refused 1)
    (cond (ltb at header_size || ltb n at) (seam_refused 6)
    (seam_of n (reach next n at)))

abbrev pub seam_at : Limits → List ℕ → List ℕ → ℕ → SeamTold
seam_at limits kinds s at = seam_from (next_at limits kinds s) (length s) at

-- the refusals' numbers
abbrev pub seam_refusal : SeamError → ℕ
seam_refusal TraceTooLong = 1
seam_refusal PlaceOutside = 6

-- each answer in the paper's numbers
abbrev pub told_seam : Result Seam SeamError → SeamTold
told_seam (Ok (UnbrokenAnswer records)) = unbroken_with records
told_seam (Ok (BrokenAnswer place records)) = broken_at place records
told_seam (Err e) = seam_refused (seam_refusal e)
