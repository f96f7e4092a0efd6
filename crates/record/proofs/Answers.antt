-- What an answer tells a caller of the record test, and that no two answers tell the same. Assumes nothing.
use Prim.Native.Nat.{ℕ, ◌≤◌}
use borrow.Author.Tests.{le-ltb}
use lib.Dec.{ltb}
use lib.ListN.{length}
use mathlib.Core.Bool.{Bool, true, false, cond, true≢false}
use mathlib.Core.List.{List}
use Rattle.std.specs.Prelude.{Option, None, Some, Ok}
use mathlib.Core.Path.{◌≡◌, refl, sym, ap, ◌∙◌}
use Rattle.layout.specs.Layout.{trace_limit}
use Rattle.record.specs.Record.{Limits, valid, next_at, RecordTold, no_record, fields_at, record_at, told_record}
use Rattle.record.specs.declared.RecordHeader.{RecordHeader}

-- an answer that is not the first case tells of no valid record
pub not_valid : (r : Option RecordHeader) → ((h : RecordHeader) → r ≡ Some h → ⊥) → (told_record (Ok r)).is_valid ≡ false
not_valid (Some h) w = absurd (w h refl)
not_valid None w = refl

module _ (limits : Limits) (kinds s : List ℕ) (at : ℕ) (t : RecordTold) (is : t ≡ record_at limits kinds s at) where
  within : length s ≤ trace_limit → t ≡ cond (valid limits kinds s at) (fields_at kinds s at) (no_record 0)
  unfolding record_at
  within fits = is ∙ simp (le-ltb trace_limit (length s) fits)

  told_none : (v : Bool) → t.is_valid ≡ false → t ≡ cond v (fields_at kinds s at) (no_record 0) → v ≡ false
  told_none true e q = sym (ap (λ (x : RecordTold). x.is_valid) q) ∙ e
  told_none false e q = refl

  -- no valid record is told: there is none
  pub is_none : length s ≤ trace_limit → t.is_valid ≡ false → valid limits kinds s at ≡ false
  is_none fits e = told_none (valid limits kinds s at) e (within fits)

  pub next_none : length s ≤ trace_limit → t.is_valid ≡ false → next_at limits kinds s at ≡ None
  unfolding next_at
  next_none fits e = rw (is_none fits e)

  told_one : (b v : Bool) → t.is_valid ≡ true → t ≡ cond b (no_record 1) (cond v (fields_at kinds s at) (no_record 0)) → (v ≡ true) × (t ≡ fields_at kinds s at)
  told_one true v e q = absurd (true≢false (sym e ∙ ap (λ (x : RecordTold). x.is_valid) q))
  told_one false true e q = (refl, q)
  told_one false false e q = absurd (true≢false (sym e ∙ ap (λ (x : RecordTold). x.is_valid) q))

  -- a valid record is told: there is one, with these fields
  pub is_one : t.is_valid ≡ true → (valid limits kinds s at ≡ true) × (t ≡ fields_at kinds s at)
  unfolding record_at
  is_one e = told_one (ltb trace_limit (length s)) (valid limits kinds s at) e is

  pub next_one : t.is_valid ≡ true → next_at limits kinds s at ≡ Some t.next
  unfolding next_at
  next_one e = rw (is_one e).0 (ap (λ (x : RecordTold). Some x.next) (sym (is_one e).1))
