-- Records larger than the window, and bounds that cross, are among what the premises take in: of a trace, byte by byte. Assumes nothing.
use Prim.Native.Nat.{ℕ, ◌+◌, ◌≤◌, ◌<◌}
use lib.IntN.{ℤ, pos}
use lib.ListN.{length}
use lib.Signed.{lt_z, le_z_yes}
use mathlib.Core.Bool.{Bool, true, false}
use mathlib.Core.List.{List, [], ◌∷◌, ◌++◌, append-nil, Memᴰ}
use Rattle.std.specs.Prelude.{Some}
use mathlib.Core.Path.{◌≡◌, refl, sym, ap, subst, ◌∙◌}
use native.Mathlib.Omega.{arith}
use Rattle.layout.specs.Layout.{trace_limit, kind_of}
use Rattle.record.proofs.Steps.{Steps}
use Rattle.record.proofs.Valid.{record_steps}
use Rattle.record.specs.Record.{plausible}
use Rattle.resync.proofs.Chain.{boundary_record}
use Rattle.resync.specs.Boundary.{boundary}
use Rattle.resync.specs.Search.{default_window}
use Rattle.seam.proofs.Boundaries.{is_boundary}
use Rattle.seam.specs.Seam.{Unbroken, ends, more}
use Rattle.seek.proofs.Halvings as Halvings
use Rattle.seek.specs.Seek.{middle, next_lo, next_hi, Bracket, halved_none, counted, narrowed, bracket}
use Rattle.span.proofs.Meets.{Meets, meets, met_at}
use Rattle.span.specs.Met.{Trace, MetTold, trace_of, meet, first_met}
use Rattle.plain.proofs.Chain.{met_next, met_here}
use Rattle.plain.specs.Premises.{Premises, NeverDecrease, NoOtherBoundary}
use Rattle.plain_examples.specs.Traces.{header, second, millisecond, blank, large}
use Rattle.plain_examples.proofs.Parts.{From, marks, Bytes, bytes_append}
use Rattle.plain_examples.proofs.Blanks.{from_header, marks_header, bytes_header, blank_there, behind_blank, marks_blank, bytes_blank, ended, size_of}
use Rattle.plain_examples.proofs.Heads.{largest_0, largest_1, largest_2}
use Rattle.plain_examples.proofs.Lines.{sevens, of_three, Line, end, then, Rising, last, step, no_record_at, no_others, in_order}
use Rattle.plain_examples.proofs.Needed.{only_at}

abbrev places : List ℕ
places = 2048 ∷ 1050638 ∷ 2099228 ∷ []

module _
    (t : Trace) (steps : Steps t.next t.size) (n-is : t.size ≡ 3147818) (target : ℤ)
    (one : t.next 2048 ≡ Some 1050638) (two : t.next 1050638 ≡ Some 2099228) (three : t.next 2099228 ≡ Some 3147818)
    (only : (at m : ℕ) → t.next at ≡ Some m → Memᴰ at places) where
  abbrev n : ℕ
  n = t.size

  ms : Meets (meet t) n
  ms = meets t steps

  fits : n ≤ trace_limit
  fits = omega arith

  pub line : Line t 2048 places 3147818
  line = then one (then two (then three end))

  third_on : Unbroken t.next n 2099228 1
  third_on = subst (λ (k : ℕ). Unbroken t.next k 2099228 1) (sym n-is) (more three ends)

  all_on : Unbroken t.next n 2048 3
  all_on = more one (more two third_on)

  pub first_is : met_at 2048 1050638 (t.millis 2048) ≡ first_met t
  first_is = met_here t steps fits 2048 1050638 (omega arith) (is_boundary t.next n steps all_on) one

  pub place : (first_met t).offset ≡ 2048
  place = sym (ap (λ (m : MetTold). m.offset) first_is)

  pub premises : Rising t places → Premises t
  premises rising =
      record {
        has_first = sym (ap (λ (m : MetTold). m.is_found) first_is);
        unbroken = (3, subst (λ (at : ℕ). Unbroken t.next n at 3) (sym place) all_on);
        in_order = subst (NeverDecrease t) (sym place) (in_order t line only (no_record_at t line only 3147818 refl) rising);
        no_other = subst (NoOtherBoundary t) (sym place) (no_others t line only);
      }

  -- no boundary between the starts of two records
  none_by : (at : ℕ) → (Memᴰ at places → ⊥) → (b : Bool) → boundary t.next n at ≡ b → boundary t.next n at ≡ false
  none_by at other false e = e
  none_by at other true e = absurd (other (only at (boundary_record t.next n at e).0 (boundary_record t.next n at e).1))

  between : (low high : ℕ) → ((at : ℕ) → low ≤ at → at < high → Memᴰ at places → ⊥) → (at : ℕ) → low ≤ at → at < high → boundary t.next n at ≡ false
  between low high none_there at l h = none_by at (none_there at l h) (boundary t.next n at) refl

  module _ (early : lt_z (t.millis 1050638) target ≡ true) (late : lt_z (t.millis 2099228) target ≡ false) where
    -- the first middle lies in the second record: its search meets the third, which is late, so that hi is there
    first_middle : met_at 2099228 3147818 (t.millis 2099228) ≡ meet t (middle 2048 n)
    first_middle =
        met_next t steps fits (middle 2048 n) 2099228 3147818 (omega arith) (omega arith) (omega arith)
        (between (middle 2048 n) 2099228 (λ at l h a. of_three at 2048 1050638 2099228 a (λ e. omega arith) (λ e. omega arith) (λ e. omega arith)))
        (is_boundary t.next n steps third_on) three

    -- the second lies in the first: its search meets the second, which is early, so that lo is its end
    second_middle : met_at 1050638 2099228 (t.millis 1050638) ≡ meet t (middle 2048 (middle 2048 n))
    second_middle =
        met_next t steps fits (middle 2048 (middle 2048 n)) 1050638 2099228 (omega arith) (omega arith) (omega arith)
        (between (middle 2048 (middle 2048 n)) 1050638 (λ at l h a. of_three at 2048 1050638 2099228 a (λ e. omega arith) (λ e. omega arith) (λ e. omega arith)))
        (is_boundary t.next n steps (more two third_on)) two

    second_halving : narrowed (meet t) target n 2048 (middle 2048 n) ≡ counted (halved_none 2099228 (middle 2048 n))
    second_halving =
        Halvings.one_halving (meet t) n ms target n 2048 (middle 2048 n) (omega arith) (omega arith)
        ∙ ap (λ (m : MetTold). counted (narrowed (meet t) target n (next_lo target 2048 m) (next_hi target (middle 2048 (middle 2048 n)) (middle 2048 n) m))) (sym second_middle)
        ∙ simp early (ap counted (Halvings.short (meet t) n ms target n 2099228 (middle 2048 n) (omega arith)))

    halved : narrowed (meet t) target n 2048 n ≡ counted (counted (halved_none 2099228 (middle 2048 n)))
    halved =
        Halvings.one_halving (meet t) n ms target n 2048 n (omega arith) (omega arith)
        ∙ ap (λ (m : MetTold). counted (narrowed (meet t) target n (next_lo target 2048 m) (next_hi target (middle 2048 n) n m))) (sym first_middle)
        ∙ simp late (ap counted second_halving)

    pub crossed : (bracket t target).hi < (bracket t target).lo
    crossed =
        let is : bracket t target ≡ counted (counted (halved_none 2099228 (middle 2048 n))) = ap (λ (at : ℕ). narrowed (meet t) target n at n) place ∙ halved in
        subst (λ (b : Bracket). b.hi < b.lo) (sym is) (omega arith)

module _ (kinds : List ℕ) (known : kind_of kinds 0xFE ≡ 3) where
  abbrev t : Trace
  t = trace_of plausible kinds large

  abbrev rest_1 : List ℕ
  rest_1 = blank (second 1) 1048576 ++ blank (second 2) 1048576

  from_0 : From large 2048 (blank (second 0) 1048576 ++ rest_1)
  unfolding large
  from_0 = from_header (blank (second 0) 1048576 ++ rest_1)

  from_1 : From large 1050638 rest_1
  from_1 = behind_blank kinds known largest_0 rest_1 from_0

  from_2 : From large 2099228 (blank (second 2) 1048576 ++ [])
  from_2 = ended (behind_blank kinds known largest_1 (blank (second 2) 1048576) from_1)

  size_is : length large ≡ 3147818
  size_is = size_of (behind_blank kinds known largest_2 [] from_2)

  marks_are : marks large 0 ≡ sevens places
  unfolding large
  marks_are =
      marks_header (blank (second 0) 1048576 ++ rest_1)
      ∙ marks_blank kinds known largest_0 rest_1 2048
      ∙ ap (λ (l : List ℕ). 2055 ∷ l)
      (marks_blank kinds known largest_1 (blank (second 2) 1048576) 1050638
      ∙ ap (λ (l : List ℕ). 1050645 ∷ l)
      (ap (λ (x : List ℕ). marks x 2099228) (sym (append-nil (blank (second 2) 1048576))) ∙ marks_blank kinds known largest_2 [] 2099228))

  bytes : Bytes large
  unfolding large
  bytes =
      bytes_append header (blank (second 0) 1048576 ++ rest_1) bytes_header
      (bytes_append (blank (second 0) 1048576) rest_1 (bytes_blank kinds known largest_0)
      (bytes_append (blank (second 1) 1048576) (blank (second 2) 1048576) (bytes_blank kinds known largest_1) (bytes_blank kinds known largest_2)))

  only : (at m : ℕ) → t.next at ≡ Some m → Memᴰ at places
  only = only_at kinds large places bytes marks_are

  -- all premises, each record larger than the window, and bounds that cross
  pub large_included :
      Premises t
      × (((at m : ℕ) → t.next at ≡ Some m → at + default_window < m)
      × ((bracket t (pos (millisecond 2))).hi < (bracket t (pos (millisecond 2))).lo))
  large_included =
      let steps : Steps t.next t.size = record_steps plausible kinds large in
      let a : _ = blank_there kinds known largest_0 rest_1 from_0 in
      let b : _ = blank_there kinds known largest_1 (blank (second 2) 1048576) from_1 in
      let c : _ = blank_there kinds known largest_2 [] from_2 in
      let early : lt_z (t.millis 1050638) (pos (millisecond 2)) ≡ true = ap (λ z. lt_z z (pos (millisecond 2))) b.1 in
      let late : lt_z (t.millis 2099228) (pos (millisecond 2)) ≡ false = ap (λ z. lt_z z (pos (millisecond 2))) c.1 in (
        premises t steps size_is (pos (millisecond 2)) a.0 b.0 c.0 only (step (rw (a.1, b.1) (le_z_yes tt)) (step (rw (b.1, c.1) (le_z_yes tt)) last)),
        (
          λ at m e.
              of_three at 2048 1050638 2099228 (only at m e) (λ same. let is : m ≡ 1050638 = cc a.0 in omega arith)
              (λ same. let is : m ≡ 2099228 = cc b.0 in omega arith) (λ same. let is : m ≡ 3147818 = cc c.0 in omega arith),
          crossed t steps size_is (pos (millisecond 2)) a.0 b.0 c.0 only early late,
        ),
      )
