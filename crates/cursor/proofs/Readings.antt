-- Reading an unbroken stretch page by page: the pages end, and joined, gaps aside, they are the rows of every record. Over any record test and
-- any rows of a record. Assumes nothing.
use Prim.Native.Nat.{ℕ, zero, suc, ◌+◌, ◌≤◌, ◌<◌}
use borrow.Author.Tests.{ltb-false}
use lib.Dec.{ltb}
use lib.IntN.{ℤ}
use lib.ListN.{length, drop}
use mathlib.Core.Bool.{Bool, true, false, cond, false≢true}
use mathlib.Core.List.{List, [], ◌∷◌, ◌++◌, append-nil, flat_map}
use Rattle.std.specs.Prelude.{Option, None, Some, Result, Ok, Err}
use mathlib.Core.Path.{◌≡◌, refl, sym, ap, ◌∙◌}
use native.Mathlib.Omega.{arith}
use Rattle.choice.proofs.Choice.{either}
use Rattle.layout.specs.Layout.{header_size, trace_limit}
use Rattle.record.proofs.Steps.{Steps, past_end}
use Rattle.rows.specs.declared.Row.{Row}
use Rattle.seam.specs.Seam.{Unbroken, ends, more}
use Rattle.paging.specs.Page.{gapped, Taken, taken, PageTold, PageGiven, going_on, last_page, going_or_last, with_none, page_from, told_page}
use Rattle.paging.specs.declared.Page.{Page}
use Rattle.paging.specs.declared.PageError.{PageError}
use Rattle.paging.proofs.Answers.{page_answer}
use Rattle.cursor.specs.Reading.{Call, told, page_rows, Roomy, Chosen, Reading, last, more as further, joined, bare, rows_from}
use Rattle.cursor.specs.Table.{Answered}
use Rattle.seam.proofs.Boundaries.{unbroken_inside}
use Rattle.cursor.proofs.Held.{rows_held}
use Rattle.cursor.proofs.Pages.{bare_append, bare_gapped, rows_stop, Part, part_more, page_end, page_given}

-- an answer that names a next place is no refusal
none_refused : (start size : ℕ) (next : Option ℕ) → (going_or_last start size next).refusal ≡ 0
none_refused start size (Some next) = refl
none_refused start size None = refl

named : (p : Result Page PageError) → (told_page p).is_more ≡ true → (told_page p).refusal ≡ 0
named (Ok p) e = none_refused p.start p.size p.next
named (Err refusal) e = absurd (false≢true e)

module _ (next : ℕ → Option ℕ) (rows : ℕ → List Row) (n : ℕ) (steps : Steps next n) (before : Option ℤ) (fits : n ≤ trace_limit) where
  -- the page from a place
  abbrev pub page : ℕ → ℕ → ℕ → PageGiven
  page count room at = page_from next rows n before at count room

  abbrev all : ℕ → List Row
  all at = rows_from next rows n at

  none_left : all n ≡ []
  none_left = rows_stop next rows n steps n (past_end next n steps n (omega arith))

  -- what is left after a page that names a next place: an unbroken stretch of fewer records
  record Onward (k there : ℕ) : Type 0 where
    pub left : ℕ
    pub fewer : left < k
    pub low : header_size ≤ there
    pub rest : Unbroken next n there left

  module _ (count room : ℕ) where
    -- the page from the end
    module _ (low : header_size ≤ n) where
      end_is : page count room n ≡ with_none (last_page n 0)
      end_is = page_end next rows n steps before fits low count room

      end_all : bare (page count room n).rows ≡ bare (all n)
      end_all = rw end_is (rw none_left)

    -- one page that is not refused for want of room, from a record's place, and the pages after it
    module _ {at m k : ℕ} (counted : 1 ≤ count) (low : header_size ≤ at) (e : next at ≡ Some m) (u : Unbroken next n m k) (roomy : (page count room at).told.refusal ≡ 7 → ⊥) where
      abbrev t : Taken
      t = taken next rows n at count

      p : Part next rows n steps at k t
      p = part_more next rows n steps e u count counted

      abbrev said : Bool → PageTold
      said b = cond b (going_on at (length t.rows) t.end) (last_page at (length t.rows))

      is : page count room at ≡ record { told = said (ltb t.end n); rows = gapped before t.rows }
      is = page_given next rows n steps before fits low (more e u) count room counted roomy

      -- with some rows that are those after it, it has all
      with_rest : (rest : List Row) → bare rest ≡ bare (all t.end) → bare ((page count room at).rows ++ rest) ≡ bare (all at)
      with_rest rest h =
          bare_append (page count room at).rows rest
          ∙ ap (λ (l : List Row). l ++ bare rest) (ap (λ (g : PageGiven). bare g.rows) is ∙ bare_gapped before t.rows)
          ∙ ap (λ (l : List Row). bare t.rows ++ l) h
          ∙ sym (bare_append t.rows (all t.end))
          ∙ ap bare p.together

      -- no page comes after it: it has all
      alone : ltb t.end n ≡ false → bare (page count room at).rows ≡ bare (all at)
      unfolding bare
      alone b =
          let at_end : t.end ≡ n = omega (arith, ltb-false t.end n b, unbroken_inside next n steps p.rest) in
          let h : bare [] ≡ bare (all t.end) = rw at_end (rw none_left) in
          ap bare (sym (append-nil (page count room at).rows)) ∙ with_rest [] h

      goes_on_lem : (page count room at).told.is_more ≡ ltb t.end n
      goes_on_lem = ap (λ (g : PageGiven). g.told.is_more) is ∙ by_more (ltb t.end n)
        where
          by_more : (b : Bool) → (said b).is_more ≡ b
          by_more true = refl
          by_more false = refl

      next_place : ltb t.end n ≡ true → (page count room at).told.next ≡ t.end
      next_place b = ap (λ (g : PageGiven). g.told.next) is ∙ rw b

    module _ (counted : 1 ≤ count) where
      -- the page that names no next place has all
      read_last : {at k : ℕ} → header_size ≤ at → Unbroken next n at k → ((page count room at).told.refusal ≡ 7 → ⊥) → (page count room at).told.is_more ≡ false
          → bare (page count room at).rows ≡ bare (all at)
      read_last low ends r e = end_all low
      read_last low (more f u) r e = alone counted low f u r (sym (goes_on_lem counted low f u r) ∙ e)

      -- one that names a next place, and what is left there
      read_on : {at k : ℕ} → header_size ≤ at → Unbroken next n at k → ((page count room at).told.refusal ≡ 7 → ⊥) → (page count room at).told.is_more ≡ true
          → Onward k (page count room at).told.next
      read_on low ends r e = absurd (false≢true (sym (ap (λ (g : PageGiven). g.told.is_more) (end_is low)) ∙ e))
      read_on low (more f u) r e =
          let q = p counted low f u r in
          rw (next_place counted low f u r (sym (goes_on_lem counted low f u r) ∙ e))
          (record { left = q.left; fewer = omega (arith, q.fewer); low = omega (arith, q.further_on); rest = q.rest })

      read_more : {at k : ℕ} → header_size ≤ at → Unbroken next n at k → ((page count room at).told.refusal ≡ 7 → ⊥) → (page count room at).told.is_more ≡ true
          → (rest : List Row) → bare rest ≡ bare (all (page count room at).told.next) → bare ((page count room at).rows ++ rest) ≡ bare (all at)
      read_more low ends r e rest h = absurd (false≢true (sym (ap (λ (g : PageGiven). g.told.is_more) (end_is low)) ∙ e))
      read_more low (more f u) r e rest h =
          with_rest counted low f u r rest (rw (next_place counted low f u r (sym (goes_on_lem counted low f u r) ∙ e)) at h)

  -- a call's answer and its table say what the page is
  module _ (at : ℕ) (c : Call) (answered : Answered (page c.count (length c.lent) at) c.answer c.lent c.after) where
    abbrev given : PageGiven
    given = page c.count (length c.lent) at

    held : page_rows c ≡ given.rows
    held = rows_held next rows n steps before at c answered

    more_given : (goes : Bool) → (told c).is_more ≡ goes → given.told.is_more ≡ goes
    more_given goes e = sym (ap (λ (t : PageTold). t.is_more) answered.told) ∙ e

    room_given : Roomy c → given.told.refusal ≡ 7 → ⊥
    room_given roomy z = roomy (ap (λ (t : PageTold). t.refusal) answered.told ∙ z)

    next_given : (told c).next ≡ given.told.next
    next_given = ap (λ (t : PageTold). t.next) answered.told

    module _ (counted : 1 ≤ c.count) {k : ℕ} (low : header_size ≤ at) (u : Unbroken next n at k) where
      call_last : Roomy c → (told c).is_more ≡ false → bare (page_rows c) ≡ bare (all at)
      call_last roomy e = ap bare held ∙ read_last c.count (length c.lent) counted low u (room_given roomy) (more_given false e)

      call_roomy : (told c).is_more ≡ true → Roomy c
      call_roomy e z = omega (arith, named c.answer e)

      call_on : (told c).is_more ≡ true → Onward k (told c).next
      call_on e = rw next_given (read_on c.count (length c.lent) counted low u (room_given (call_roomy e)) (more_given true e))

      call_more : (told c).is_more ≡ true → (rest : List Row) → bare rest ≡ bare (all (told c).next) → bare (page_rows c ++ rest) ≡ bare (all at)
      call_more e rest h =
          ap (λ (l : List Row). bare (l ++ rest)) held
          ∙ read_more c.count (length c.lent) counted low u (room_given (call_roomy e)) (more_given true e) rest (rw next_given at h)

  -- ---- whatever pages were read, they end, and have all
  module _ (call : ℕ → Call → Type 0) (answered : (at : ℕ) (c : Call) → call at c → Answered (page c.count (length c.lent) at) c.answer c.lent c.after)
      (counted : (at : ℕ) (c : Call) → call at c → 1 ≤ c.count) where
    pub few_pages : {at : ℕ} {calls : List Call} {goes : Bool} → Reading call at calls goes → (k : ℕ) → header_size ≤ at → Unbroken next n at k → length calls ≤ k + 1
    few_pages (last o e) k low u = omega arith
    few_pages {at} (further {c = c} o e rd) k low u =
        let q = call_on at c (answered at c o) (counted at c o) low u e in
        omega (arith, few_pages rd q.left q.low q.rest, q.fewer)

    pub read_all : ((at : ℕ) (c : Call) → call at c → Roomy c) → {at : ℕ} {calls : List Call} {goes : Bool} → Reading call at calls goes → goes ≡ false → (k : ℕ) → header_size ≤ at → Unbroken next n at k
        → bare (joined calls) ≡ bare (all at)
    unfolding joined flat_map
    read_all roomy {at} (last {c = c} o e) f k low u = ap bare (append-nil (page_rows c)) ∙ call_last at c (answered at c o) (counted at c o) low u (roomy at c o) (e ∙ f)
    read_all roomy {at} (further {c = c} {calls = cs} o e rd) f k low u =
        let q = call_on at c (answered at c o) (counted at c o) low u e in
        call_more at c (answered at c o) (counted at c o) low u e (joined cs) (read_all roomy rd f q.left q.low q.rest)

  -- ---- with whatever counts and tables there are pages to the last
  module _ (counts : ℕ → ℕ) (tables : ℕ → List Row) (some_rows : (at : ℕ) → 1 ≤ counts at) where
    abbrev asked : ℕ → PageGiven
    asked at = page (counts at) (length (tables at)) at

    answer_at : (at : ℕ) → (p : Result Page PageError) × (told_page p ≡ (asked at).told)
    answer_at at = page_answer next rows n before at (counts at) (length (tables at))

    abbrev call_at : ℕ → Call
    call_at at =
        record {
          count = counts at;
          lent = tables at;
          answer = (answer_at at).0;
          after = (asked at).rows ++ drop (length (asked at).rows) (tables at);
        }

    abbrev So : ℕ → Call → Type 0
    So at c = Answered (page c.count (length c.lent) at) c.answer c.lent c.after × (1 ≤ c.count) × Chosen counts tables at c

    so : (at : ℕ) → So at (call_at at)
    so at = (record { told = (answer_at at).1; rows = refl }, some_rows at, record { count_is = refl; table_is = refl })

    abbrev Reads : ℕ → Type 0
    Reads at = (calls : List Call) × Reading So at calls false

    -- the page from a place, and those after it where it names a next place
    reads_on : (at k : ℕ) → header_size ≤ at → Unbroken next n at k → (Onward k (told (call_at at)).next → Reads (told (call_at at)).next) → Reads at
    reads_on at k low u later =
        either (told (call_at at)).is_more
        (λ yes'.
        let rest = later (call_on at (call_at at) (so at).0 (some_rows at) low u yes') in
        (call_at at ∷ rest.0, further (so at) yes' rest.1))
        (λ no'. (call_at at ∷ [], last (so at) no'))

    reads_by : (bound at k : ℕ) → k ≤ bound → header_size ≤ at → Unbroken next n at k → Reads at
    reads_by zero at k h low u = reads_on at k low u (λ q. absurd (omega (arith, q.fewer)))
    reads_by (suc bound) at k h low u = reads_on at k low u (λ q. reads_by bound (told (call_at at)).next q.left (omega (arith, q.fewer)) q.low q.rest)

    pub reads_all : (at k : ℕ) → header_size ≤ at → Unbroken next n at k → Reads at
    reads_all at k low u = reads_by k at k (omega arith) low u
