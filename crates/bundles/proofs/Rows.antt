-- 02's request 12, of rows: those of a record whose payload is two joined say what the rows of a record with each say. Assumes nothing.
use Prim.Native.Nat.{ℕ, ◌+◌}
use lib.ListN.{length, take, drop}
use lib.Seq.{drop-drop}
use mathlib.Core.Bool.{true}
use mathlib.Core.List.{List, [], ◌∷◌, ◌++◌, map}
use mathlib.Core.Path.{◌≡◌, refl, sym, ap, ◌∙◌}
use native.Mathlib.Omega.{arith}
use Rattle.layout.specs.Layout.{payload_part}
use Rattle.layout.specs.Fields.{kind_at, outgoing_at, length_at}
use Rattle.rows.specs.Frames.{Placed, pti_from}
use Rattle.rows.specs.Rows.{payload_at, numbered, rows_at}
use Rattle.rows.proofs.Inside.{AllIn, pti_by}
use Rattle.rows.proofs.Walk.{is_pti_lem}
use Rattle.bundles.specs.Bundles.{Consumed}
use Rattle.bundles.specs.Heard.{Heard, heard_with, heard_in, heard, heard_at, heard_rows, is_pti}
use Rattle.bundles.proofs.Frames.{part_of_part, joined_heard}

-- the rows of a record of a PTI kind say what its payload's frames say
module _ (kinds s : List ℕ) (at : ℕ) where
  numbered_says : (position : ℕ) (fs : List Placed) → AllIn (length (payload_at s at)) fs
      → map (heard_at s) (numbered s at position fs) ≡ map (λ (x : Placed). heard_in (payload_at s at) x.frame) fs
  unfolding numbered AllIn
  numbered_says position [] inside = refl
  numbered_says position (x ∷ fs) inside =
      let m = x.frame.mpdu in
      let n = x.frame.mpdu_len in
      let same : take n (drop (at + payload_part + m) s) ≡ take n (drop m (payload_at s at)) =
      ap (take n) (sym (drop-drop m (at + payload_part) s)) ∙ sym (part_of_part m n (length_at s at) (drop (at + payload_part) s) inside.0)
      in
      ap (λ (y : List ℕ). heard_with x.frame y ∷ map (heard_at s) (numbered s at (position + 1) fs)) same
      ∙ ap (λ (l : List Heard). heard_in (payload_at s at) x.frame ∷ l) (numbered_says (position + 1) fs inside.1)

  pub rows_say : is_pti (kind_at kinds s at) ≡ true → heard_rows kinds s at ≡ heard (payload_at s at)
  unfolding rows_at heard
  rows_say kind =
      ap (λ (fs : List Placed). map (heard_at s) (numbered s at 0 fs)) (sym (is_pti_lem (kind_at kinds s at) (outgoing_at s at) (payload_at s at) 0 kind))
      ∙ numbered_says 0 (pti_from (payload_at s at) 0) (pti_by (payload_at s at) (length (payload_at s at)) 0 (omega arith))

-- the rows of a record whose payload is that of two others joined, wherever the three stand
module _ (kinds s t u : List ℕ) (a b c : ℕ) (first : is_pti (kind_at kinds s a) ≡ true) (second : is_pti (kind_at kinds t b) ≡ true)
    (both : is_pti (kind_at kinds u c) ≡ true) (consumed : Consumed (payload_at s a)) (is : payload_at u c ≡ payload_at s a ++ payload_at t b) where
  pub joined_rows : heard_rows kinds u c ≡ heard_rows kinds s a ++ heard_rows kinds t b
  joined_rows =
      rows_say kinds u c both
      ∙ ap heard is
      ∙ joined_heard (payload_at s a) (payload_at t b) consumed
      ∙ rw (rows_say kinds s a first, rows_say kinds t b second) refl
