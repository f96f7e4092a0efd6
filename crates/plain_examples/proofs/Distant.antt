-- A first record is needed for the stepped seek: of a trace, byte by byte, whose records all lie past the first window, the plain seek and the whole one find
-- none, and the stepped one finds one. From the first boundary on the other premises hold. Assumes nothing.
use Prim.Native.Nat.{ℕ, ◌≤◌, ◌<◌}
use borrow.Author.Tests.{le-ltb}
use lib.IntN.{ℤ, pos}
use lib.ListN.{length}
use lib.Signed.{lt_z, le_z_yes}
use mathlib.Core.Bool.{Bool, true, false}
use mathlib.Core.List.Memᴰ
use mathlib.Core.List.{List, [], ◌∷◌, ◌++◌, append-nil, Memᴰ}
use mathlib.Core.Logic.{⊎_elim}
use Rattle.std.specs.Prelude.{Option, Some}
use mathlib.Core.Path.{◌≡◌, refl, sym, ap, subst, ◌∙◌}
use native.Mathlib.Omega.{arith}
use Rattle.layout.specs.Layout.{header_size, trace_limit, kind_of}
use Rattle.record.proofs.Steps.{Steps}
use Rattle.record.proofs.Valid.{record_steps}
use Rattle.record.specs.Record.{plausible}
use Rattle.resync.proofs.Chain.{boundary_record}
use Rattle.resync.specs.Boundary.{boundary}
use Rattle.seam.proofs.Boundaries.{is_boundary}
use Rattle.seam.specs.Seam.{Unbroken, ends, more}
use Rattle.seek.proofs.Agree.{search_driven}
use Rattle.seek.proofs.Halvings as Halvings
use Rattle.seek.proofs.Laws.{without_first}
use Rattle.seek.proofs.Walks as Walks
use Rattle.seek.specs.Seek.{middle, next_lo, next_hi, Bracket, halved_none, counted, narrowed, walked}
use Rattle.seek.specs.Step.{Driven}
use Rattle.seek.specs.declared.SeekState.TheVariants.{Searching}
use Rattle.span.proofs.Meets.{Meets, meets, MetAt, met_at_lem, met_at}
use Rattle.span.specs.Met.{Trace, MetTold, trace_of, meet, first_met}
use Rattle.plain.proofs.Chain.{met_next, met_here}
use Rattle.plain.specs.Plain.{plain_of}
use Rattle.plain.specs.Premises.{UnbrokenFrom, NeverDecrease, NoOtherBoundary}
use Rattle.plain_examples.specs.Traces.{zeros, header, second, millisecond, blank, distant}
use Rattle.plain_examples.specs.Differ.{OnlyStepped}
use Rattle.plain_examples.proofs.Parts.{From, behind, marks, marks_zeros, Bytes, bytes_zeros, bytes_append}
use Rattle.plain_examples.proofs.Blanks.{length_zeros, from_header, marks_header, bytes_header, blank_there, behind_blank, marks_blank, bytes_blank, ended, size_of}
use Rattle.plain_examples.proofs.Heads.{small_0, small_1}
use Rattle.plain_examples.proofs.Lines.{sevens, Line, end, then, leads, last, step, no_record_at, no_others, in_order}
use Rattle.plain_examples.proofs.Needed.{only_at}

abbrev places : List ℕ
places = 1050624 ∷ 1050639 ∷ []

module _
    (t : Trace) (steps : Steps t.next t.size) (n-is : t.size ≡ 1050654) (target : ℤ)
    (one : t.next 1050624 ≡ Some 1050639) (two : t.next 1050639 ≡ Some 1050654) (only : (at m : ℕ) → t.next at ≡ Some m → Memᴰ at places)
    (early : lt_z (t.millis 1050624) target ≡ true) (late : lt_z (t.millis 1050639) target ≡ false) where
  abbrev n : ℕ
  n = t.size

  ms : Meets (meet t) n
  ms = meets t steps

  fits : n ≤ trace_limit
  fits = omega arith

  second_on : Unbroken t.next n 1050639 1
  second_on = subst (λ (k : ℕ). Unbroken t.next k 1050639 1) (sym n-is) (more two ends)

  pub line : Line t 1050624 places 1050654
  line = then one (then two end)

  -- both boundaries lie past the first window
  pub far : (at : ℕ) → boundary t.next n at ≡ true → 1050624 ≤ at
  far at is =
      ⊎_elim (λ (e : at ≡ 1050624). omega arith) (λ b. ⊎_elim (λ (e : at ≡ 1050639). omega arith) (λ c. absurd (Memᴰ.not-nil c)) (Memᴰ.cases_cons b))
      (Memᴰ.cases_cons (only at (boundary_record t.next n at is).0 (boundary_record t.next n at is).1))

  near_by : (at : ℕ) → at < 1050624 → (b : Bool) → boundary t.next n at ≡ b → boundary t.next n at ≡ false
  near_by at h false e = e
  near_by at h true e = absurd (omega (arith, far at e))

  no_first_by : (b : Bool) → (first_met t).is_found ≡ b → (first_met t).is_found ≡ false
  no_first_by false e = e
  no_first_by true e =
      let m : MetAt t header_size (first_met t) = met_at_lem t header_size e in
      absurd (omega (arith, far (first_met t).offset m.is_boundary, m.in_window))

  no_first_is : (first_met t).is_found ≡ false
  no_first_is = no_first_by (first_met t).is_found refl

  -- the middle's search meets the first record
  middle_is : met_at 1050624 1050639 (t.millis 1050624) ≡ meet t (middle 2048 n)
  middle_is =
      met_next t steps fits (middle 2048 n) 1050624 1050639 (omega arith) (omega arith) (omega arith)
      (λ j l h. near_by j h (boundary t.next n j) refl) (is_boundary t.next n steps (more one second_on)) one

  halved : narrowed (meet t) target n 2048 n ≡ counted (halved_none 1050639 n)
  halved =
      Halvings.one_halving (meet t) n ms target n 2048 n (omega arith) (omega arith)
      ∙ ap (λ (m : MetTold). counted (narrowed (meet t) target n (next_lo target 2048 m) (next_hi target (middle 2048 n) n m))) (sym middle_is)
      ∙ simp early (ap counted (Halvings.short (meet t) n ms target n 1050639 n (omega arith)))

  second_found : walked (meet t) n target n 1050639 ≡ Some 1050639
  second_found =
      Walks.answers (meet t) n ms target n 1050639 (omega arith) (omega arith) 1050639 1050654 (t.millis 1050639)
      (met_here t steps fits 1050639 1050654 (omega arith) (is_boundary t.next n steps second_on) two) late

  driven : Driven t target (Searching 2048 n) (Some 1050639) 1
  driven =
      subst (λ (o : Option ℕ). Driven t target (Searching 2048 n) o 1) second_found
      (subst (λ (b : Bracket). Driven t target (Searching 2048 n) (walked (meet t) n target n b.lo) b.halvings) halved
      (search_driven t steps fits target n 2048 n (omega arith) (omega arith)))

  pub only_stepped : OnlyStepped t target 1050639
  unfolding plain_of
  only_stepped =
      record {
        no_first = no_first_is;
        plain = simp (le-ltb trace_limit n fits, no_first_is);
        whole = (without_first t fits target no_first_is).0;
        state = Searching 2048 n;
        starts = (without_first t fits target no_first_is).1;
        halvings = 1;
        stepped = driven;
      }

module _ (kinds : List ℕ) (known : kind_of kinds 0xFE ≡ 3) where
  abbrev t : Trace
  t = trace_of plausible kinds distant

  abbrev both : List ℕ
  both = blank (second 0) 1 ++ blank (second 1) 1

  from_0 : From distant 1050624 both
  unfolding distant
  from_0 = behind (zeros 1048576) 1048576 (length_zeros 1048576) (from_header (zeros 1048576 ++ both))

  from_1 : From distant 1050639 (blank (second 1) 1 ++ [])
  from_1 = ended (behind_blank kinds known small_0 (blank (second 1) 1) from_0)

  size_is : length distant ≡ 1050654
  size_is = size_of (behind_blank kinds known small_1 [] from_1)

  marks_are : marks distant 0 ≡ sevens places
  unfolding distant
  marks_are =
      marks_header (zeros 1048576 ++ both)
      ∙ marks_zeros 1048576 both 2048
      ∙ marks_blank kinds known small_0 (blank (second 1) 1) 1050624
      ∙ ap (λ (l : List ℕ). 1050631 ∷ l)
      (ap (λ (x : List ℕ). marks x 1050639) (sym (append-nil (blank (second 1) 1))) ∙ marks_blank kinds known small_1 [] 1050639)

  bytes : Bytes distant
  unfolding distant
  bytes =
      bytes_append header (zeros 1048576 ++ both) bytes_header
      (bytes_append (zeros 1048576) both (bytes_zeros 1048576)
      (bytes_append (blank (second 0) 1) (blank (second 1) 1) (bytes_blank kinds known small_0) (bytes_blank kinds known small_1)))

  pub first_needed :
      ((at : ℕ) → boundary t.next t.size at ≡ true → 1050624 ≤ at)
      × (UnbrokenFrom t 1050624
      × (NeverDecrease t 1050624
      × (NoOtherBoundary t 1050624
      × OnlyStepped t (pos (millisecond 1)) 1050639)))
  first_needed =
      let steps : Steps t.next t.size = record_steps plausible kinds distant in
      let a : _ = blank_there kinds known small_0 (blank (second 1) 1) from_0 in
      let b : _ = blank_there kinds known small_1 [] from_1 in
      let only : (at m : ℕ) → t.next at ≡ Some m → Memᴰ at places = only_at kinds distant places bytes marks_are in
      let early : lt_z (t.millis 1050624) (pos (millisecond 1)) ≡ true = ap (λ z. lt_z z (pos (millisecond 1))) a.1 in
      let late : lt_z (t.millis 1050639) (pos (millisecond 1)) ≡ false = ap (λ z. lt_z z (pos (millisecond 1))) b.1 in
      let records : Line t 1050624 places 1050654 = then a.0 (then b.0 end) in (
        far t steps size_is (pos (millisecond 1)) a.0 b.0 only early late,
        (
          (2, subst (λ (k : ℕ). Unbroken t.next k 1050624 2) (sym size_is) (leads t records)),
          (
            in_order t records only (no_record_at t records only 1050654 refl) (step (rw (a.1, b.1) (le_z_yes tt)) last),
            (no_others t records only, only_stepped t steps size_is (pos (millisecond 1)) a.0 b.0 only early late),
          ),
        ),
      )
