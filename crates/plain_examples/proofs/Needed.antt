-- None of the last three premises can be left out: of each there is a trace, byte by byte, that meets all the others, and on which the answers differ. Assumes nothing.
use Prim.Native.Nat.{ℕ, ◌+◌}
use lib.IntN.{pos}
use lib.ListN.{length, length-append}
use lib.Signed.{lt_z, le_z_yes}
use mathlib.Core.Bool.{true, false}
use mathlib.Core.List.Memᴰ
use mathlib.Core.List.{List, [], ◌∷◌, ◌++◌, append_assoc, append-nil, Memᴰ}
use mathlib.Core.Logic.{⊎_elim}
use Rattle.std.specs.Prelude.{Some}
use mathlib.Core.Path.{◌≡◌, refl, sym, ap, subst, ◌∙◌}
use Rattle.layout.specs.Layout.{kind_of}
use Rattle.record.proofs.Steps.{Steps}
use Rattle.record.proofs.Valid.{record_steps}
use Rattle.record.specs.Record.{plausible, next_at}
use Rattle.seam.specs.Seam.{Unbroken, ends, more}
use Rattle.span.specs.Met.{Trace, trace_of, first_met}
use Rattle.plain.specs.Premises.{HasFirst, UnbrokenFrom, NeverDecrease, NoOtherBoundary}
use Rattle.plain_examples.specs.Traces.{zeros, header, second, millisecond, head, blank, tail, falling, nested}
use Rattle.plain_examples.specs.Differ.{Differ}
use Rattle.plain_examples.proofs.Parts.{From, behind, marks, marks_zeros, Bytes, bytes_small, bytes_zeros, bytes_append, begins_marked}
use Rattle.plain_examples.proofs.Blanks.{length_zeros, from_header, marks_header, bytes_header, record_there, blank_there, behind_blank, marks_head, marks_blank, bytes_blank, ended, size_of}
use Rattle.plain_examples.proofs.Heads.{small_0, small_1, small_2, half_0, half_1, outer_1}
use Rattle.plain_examples.proofs.Lines.{sevens, seven_less, not_among, Line, end, then, last, step, no_others}
use Rattle.plain_examples.proofs.Broken.{broken_differs}
use Rattle.plain_examples.proofs.Halved.{has_first, place, all_unbroken, halved_differs}

-- a record begins only at the places that the marks tell
pub only_at : (kinds s l : List ℕ) → Bytes s → marks s 0 ≡ sevens l → (at m : ℕ) → next_at plausible kinds s at ≡ Some m → Memᴰ at l
only_at kinds s l bytes is at m e = seven_less at l (subst (Memᴰ (at + 7)) is (begins_marked kinds s bytes at m e))

module _ (kinds : List ℕ) (known : kind_of kinds 0xFE ≡ 3) where
  -- a trace's bytes, as the Rust tests records
  abbrev in_bytes : List ℕ → Trace
  in_bytes s = trace_of plausible kinds s

  -- Three records and one byte more
  abbrev tail_2 : List ℕ
  tail_2 = blank (second 2) 1 ++ 0 ∷ []

  abbrev tail_1 : List ℕ
  tail_1 = blank (second 1) 1 ++ tail_2

  tail_from_0 : From tail 2048 (blank (second 0) 1 ++ tail_1)
  unfolding tail
  tail_from_0 = from_header (blank (second 0) 1 ++ tail_1)

  tail_from_1 : From tail 2063 tail_1
  tail_from_1 = behind_blank kinds known small_0 tail_1 tail_from_0

  tail_from_2 : From tail 2078 tail_2
  tail_from_2 = behind_blank kinds known small_1 tail_2 tail_from_1

  tail_marks : marks tail 0 ≡ sevens (2048 ∷ 2063 ∷ 2078 ∷ [])
  unfolding tail
  tail_marks =
      marks_header (blank (second 0) 1 ++ tail_1)
      ∙ marks_blank kinds known small_0 tail_1 2048
      ∙ ap (λ (l : List ℕ). 2055 ∷ l) (marks_blank kinds known small_1 tail_2 2063 ∙ ap (λ (l : List ℕ). 2070 ∷ l) (marks_blank kinds known small_2 (0 ∷ []) 2078))

  tail_bytes : Bytes tail
  unfolding tail
  tail_bytes =
      bytes_append header (blank (second 0) 1 ++ tail_1) bytes_header
      (bytes_append (blank (second 0) 1) tail_1 (bytes_blank kinds known small_0)
      (bytes_append (blank (second 1) 1) tail_2 (bytes_blank kinds known small_1)
      (bytes_append (blank (second 2) 1) (0 ∷ []) (bytes_blank kinds known small_2) (bytes_small (0 ∷ []) refl))))

  pub unbroken_needed :
      HasFirst (in_bytes tail)
      × (NeverDecrease (in_bytes tail) (first_met (in_bytes tail)).offset
      × (NoOtherBoundary (in_bytes tail) (first_met (in_bytes tail)).offset
      × Differ (in_bytes tail) (pos (millisecond 1)) 2063 0))
  unbroken_needed =
      let a : _ = blank_there kinds known small_0 tail_1 tail_from_0 in
      let b : _ = blank_there kinds known small_1 tail_2 tail_from_1 in
      let c : _ = blank_there kinds known small_2 (0 ∷ []) tail_from_2 in
      broken_differs (in_bytes tail) (record_steps plausible kinds tail) (size_of (behind_blank kinds known small_2 (0 ∷ []) tail_from_2)) (pos (millisecond 1))
      a.0 b.0 c.0 (only_at kinds tail (2048 ∷ 2063 ∷ 2078 ∷ []) tail_bytes tail_marks)
      (ap (λ z. lt_z z (pos (millisecond 1))) a.1) (ap (λ z. lt_z z (pos (millisecond 1))) b.1)
      (step (rw (a.1, b.1) (le_z_yes tt)) (step (rw (b.1, c.1) (le_z_yes tt)) last))

  -- Two records, the second earlier
  falling_from_0 : From falling 2048 (blank (second 1) 40001 ++ blank (second 0) 40001)
  unfolding falling
  falling_from_0 = from_header (blank (second 1) 40001 ++ blank (second 0) 40001)

  falling_from_1 : From falling 42063 (blank (second 0) 40001 ++ [])
  falling_from_1 = ended (behind_blank kinds known half_1 (blank (second 0) 40001) falling_from_0)

  falling_size : length falling ≡ 82078
  falling_size = size_of (behind_blank kinds known half_0 [] falling_from_1)

  -- the marks of what the last record of both these traces leaves
  last_marks : marks (blank (second 0) 40001) 42063 ≡ 42070 ∷ []
  last_marks = ap (λ (x : List ℕ). marks x 42063) (sym (append-nil (blank (second 0) 40001))) ∙ marks_blank kinds known half_0 [] 42063

  falling_marks : marks falling 0 ≡ sevens (2048 ∷ 42063 ∷ [])
  unfolding falling
  falling_marks =
      marks_header (blank (second 1) 40001 ++ blank (second 0) 40001)
      ∙ marks_blank kinds known half_1 (blank (second 0) 40001) 2048
      ∙ ap (λ (l : List ℕ). 2055 ∷ l) last_marks

  falling_bytes : Bytes falling
  unfolding falling
  falling_bytes =
      bytes_append header (blank (second 1) 40001 ++ blank (second 0) 40001) bytes_header
      (bytes_append (blank (second 1) 40001) (blank (second 0) 40001) (bytes_blank kinds known half_1) (bytes_blank kinds known half_0))

  pub order_needed :
      HasFirst (in_bytes falling)
      × (UnbrokenFrom (in_bytes falling) (first_met (in_bytes falling)).offset
      × (NoOtherBoundary (in_bytes falling) (first_met (in_bytes falling)).offset
      × Differ (in_bytes falling) (pos (millisecond 1)) 2048 1))
  order_needed =
      let t : Trace = in_bytes falling in
      let steps : Steps t.next t.size = record_steps plausible kinds falling in
      let a : _ = blank_there kinds known half_1 (blank (second 0) 40001) falling_from_0 in
      let b : _ = blank_there kinds known half_0 [] falling_from_1 in
      let rest : Unbroken t.next t.size 42063 1 = subst (λ (n : ℕ). Unbroken t.next n 42063 1) (sym falling_size) (more b.0 ends) in
      let late : lt_z (t.millis 2048) (pos (millisecond 1)) ≡ false = ap (λ z. lt_z z (pos (millisecond 1))) a.1 in
      let early : lt_z (t.millis 42063) (pos (millisecond 1)) ≡ true = ap (λ z. lt_z z (pos (millisecond 1))) b.1 in
      let line : Line t 2048 (2048 ∷ 42063 ∷ []) 82078 = then a.0 (then b.0 end) in (
        has_first t steps falling_size (pos (millisecond 1)) 42063 1 a.0 b.0 rest late early,
        (
          all_unbroken t steps falling_size (pos (millisecond 1)) 42063 1 a.0 b.0 rest late early,
          (
            subst (NoOtherBoundary t) (sym (place t steps falling_size (pos (millisecond 1)) 42063 1 a.0 b.0 rest late early))
                (no_others t line (only_at kinds falling (2048 ∷ 42063 ∷ []) falling_bytes falling_marks)),
            halved_differs t steps falling_size (pos (millisecond 1)) 42063 1 a.0 b.0 rest late early,
          ),
        ),
      )

  -- One record, and an earlier one in its payload that ends where it ends
  abbrev inside : List ℕ
  inside = zeros 40002 ++ (head (second 0) 40001 ++ zeros 40001)

  inside_is : zeros 40002 ++ blank (second 0) 40001 ≡ inside ++ 0xFE ∷ []
  inside_is = sym (append_assoc (zeros 40002) (head (second 0) 40001 ++ zeros 40001) (0xFE ∷ []))

  inside_length : length inside ≡ 80016
  inside_length =
      length-append (zeros 40002) (head (second 0) 40001 ++ zeros 40001)
      ∙ ap (λ (n : ℕ). n + length (head (second 0) 40001 ++ zeros 40001)) (length_zeros 40002)
      ∙ ap (λ (n : ℕ). 40002 + n) (length-append (head (second 0) 40001) (zeros 40001) ∙ ap (λ (n : ℕ). 13 + n) (length_zeros 40001))

  nested_from_0 : From nested 2048 (head (second 1) 80016 ++ (zeros 40002 ++ blank (second 0) 40001))
  unfolding nested
  nested_from_0 = from_header (head (second 1) 80016 ++ (zeros 40002 ++ blank (second 0) 40001))

  nested_from_1 : From nested 42063 (blank (second 0) 40001 ++ [])
  nested_from_1 = ended (behind (zeros 40002) 40002 (length_zeros 40002) (behind (head (second 1) 80016) 13 refl nested_from_0))

  nested_size : length nested ≡ 82078
  nested_size = size_of (behind_blank kinds known half_0 [] nested_from_1)

  nested_marks : marks nested 0 ≡ sevens (2048 ∷ 42063 ∷ [])
  unfolding nested
  nested_marks =
      marks_header (head (second 1) 80016 ++ (zeros 40002 ++ blank (second 0) 40001))
      ∙ marks_head kinds known outer_1 (zeros 40002 ++ blank (second 0) 40001) 2048
      ∙ ap (λ (l : List ℕ). 2055 ∷ l) (marks_zeros 40002 (blank (second 0) 40001) 2061 ∙ last_marks)

  nested_bytes : Bytes nested
  unfolding nested
  nested_bytes =
      bytes_append header (head (second 1) 80016 ++ (zeros 40002 ++ blank (second 0) 40001)) bytes_header
      (bytes_append (head (second 1) 80016) (zeros 40002 ++ blank (second 0) 40001) (bytes_small (head (second 1) 80016) refl)
      (bytes_append (zeros 40002) (blank (second 0) 40001) (bytes_zeros 40002) (bytes_blank kinds known half_0)))

  nested_only : (at m : ℕ) → next_at plausible kinds nested at ≡ Some m → Memᴰ at (2048 ∷ 42063 ∷ [])
  nested_only = only_at kinds nested (2048 ∷ 42063 ∷ []) nested_bytes nested_marks

  -- both end at the end, where no record begins, so that none follows another
  alone :
      next_at plausible kinds nested 2048 ≡ Some 82078 → next_at plausible kinds nested 42063 ≡ Some 82078
      → (first : ℕ) → NeverDecrease (in_bytes nested) first
  alone one two first at after b e a =
      let ends_there : after ≡ 82078 =
      ⊎_elim (λ (same : at ≡ 2048). cc) (λ c. ⊎_elim (λ (same : at ≡ 42063). cc) (λ d. absurd (Memᴰ.not-nil d)) (Memᴰ.cases_cons c)) (Memᴰ.cases_cons (nested_only at after e)) in
      absurd (not_among 82078 (2048 ∷ 42063 ∷ []) refl (subst (λ (x : ℕ). Memᴰ x (2048 ∷ 42063 ∷ [])) ends_there (nested_only after a.end a.valid)))

  pub boundaries_needed :
      HasFirst (in_bytes nested)
      × (UnbrokenFrom (in_bytes nested) (first_met (in_bytes nested)).offset
      × (NeverDecrease (in_bytes nested) (first_met (in_bytes nested)).offset
      × Differ (in_bytes nested) (pos (millisecond 1)) 2048 1))
  boundaries_needed =
      let t : Trace = in_bytes nested in
      let steps : Steps t.next t.size = record_steps plausible kinds nested in
      let a : _ = record_there kinds known outer_1 inside [] inside_length (subst (λ (x : List ℕ). From nested 2048 (head (second 1) 80016 ++ x)) inside_is nested_from_0) in
      let b : _ = blank_there kinds known half_0 [] nested_from_1 in
      let rest : Unbroken t.next t.size 82078 0 = subst (λ (n : ℕ). Unbroken t.next n 82078 0) (sym nested_size) ends in
      let late : lt_z (t.millis 2048) (pos (millisecond 1)) ≡ false = ap (λ z. lt_z z (pos (millisecond 1))) a.1 in
      let early : lt_z (t.millis 42063) (pos (millisecond 1)) ≡ true = ap (λ z. lt_z z (pos (millisecond 1))) b.1 in (
        has_first t steps nested_size (pos (millisecond 1)) 82078 0 a.0 b.0 rest late early,
        (
          all_unbroken t steps nested_size (pos (millisecond 1)) 82078 0 a.0 b.0 rest late early,
          (
            alone a.0 b.0 (first_met t).offset,
            halved_differs t steps nested_size (pos (millisecond 1)) 82078 0 a.0 b.0 rest late early,
          ),
        ),
      )
