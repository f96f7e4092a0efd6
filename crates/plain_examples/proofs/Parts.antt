-- Traces that are made of parts: what is read behind a part, a record that stands there, and the places where none can. Assumes nothing.
use Prim.Native.Nat.{ℕ, zero, suc, ◌+◌, ◌<◌}
use borrow.Author.Tests.{ltb-true}
use lib.Dec.{ltb, eqb}
use lib.ListN.{length, get_or, length-append}
use lib.Seq.{get_or-append-add}
use mathlib.Core.Bool.{Bool, true, false, cond, ◌&&◌, false≢true, true≢false}
use mathlib.Core.List.{List, [], ◌∷◌, ◌++◌, append_assoc, Memᴰ}
use Rattle.std.specs.Prelude.{Some}
use mathlib.Core.Path.{◌≡◌, refl, sym, ap, ◌∙◌}
use native.Mathlib.Omega.{arith}
use Rattle.choice.proofs.Choice.{left_true, right_true}
use Rattle.ticks.specs.Ticks.{cleared}
use Rattle.layout.specs.Layout.{le_at, kind_of}
use Rattle.layout.specs.Fields.{ticks_at, length_at, kind_at}
use Rattle.record.proofs.Valid.{valid_some, some_valid}
use Rattle.record.proofs.Ways.{six}
use Rattle.record.specs.Record.{Limits, plausible, ticks_in, length_in, next_at}
use Rattle.resync.proofs.High.{turned_away}
use Rattle.resync.specs.Block.{may_ticks}
use Rattle.plain_examples.specs.Traces.{zeros}

-- a number behind a part
pub number_after : (n : ℕ) (pre post : List ℕ) (at : ℕ) → le_at n (pre ++ post) (length pre + at) ≡ le_at n post at
unfolding le_at
number_after zero pre post at = refl
number_after (suc n) pre post at =
    let place : length pre + at + n ≡ length pre + (at + n) = omega arith in
    rw (number_after n pre post at, place, get_or-append-add pre post (at + n) 0)

-- from a place on, a trace is these bytes
pub record From (s : List ℕ) (place : ℕ) (rest : List ℕ) : Type 0 where
  pub before : List ℕ
  pub joined : s ≡ before ++ rest
  pub size : length before ≡ place

pub from_start : (s : List ℕ) → From s 0 s
from_start s = record { before = []; joined = refl; size = refl }

-- behind a part
pub behind : {s rest : List ℕ} {place : ℕ} (part : List ℕ) (n : ℕ) → length part ≡ n → From s place (part ++ rest) → From s (place + n) rest
behind {s} {rest} {place} part n is f =
    record {
      before = f.before ++ part;
      joined = f.joined ∙ sym (append_assoc f.before part rest);
      size = length-append f.before part ∙ (omega (arith, f.size));
    }

-- a record there: its head of 13 bytes says its ticks and its size, its payload has that size, and the end byte of a Zniffer record follows
module _
    (limits : Limits) (kinds s h payload rest : List ℕ) (at ticks size : ℕ) (whole : length h ≡ 13)
    (says_ticks : (x : List ℕ) → le_at 8 (h ++ x) 0 ≡ ticks) (says_size : (x : List ℕ) → le_at 4 (h ++ x) 9 ≡ size)
    (there : From s at (h ++ (payload ++ 0xFE ∷ rest))) where
  abbrev body : List ℕ
  body = h ++ (payload ++ 0xFE ∷ rest)

  number_there : (n i : ℕ) → le_at n s (at + i) ≡ le_at n body i
  number_there n i =
      ap (λ (x : List ℕ). le_at n x (at + i)) there.joined ∙ ap (λ (k : ℕ). le_at n (there.before ++ body) (k + i)) (sym there.size) ∙ number_after n there.before body i

  pub ticks_there : ticks_at s at ≡ ticks
  ticks_there =
      let place : at ≡ at + 0 = omega arith in
      ap (le_at 8 s) place ∙ number_there 8 0 ∙ says_ticks (payload ++ 0xFE ∷ rest)

  size_there : length_at s at ≡ size
  size_there = number_there 4 9 ∙ says_size (payload ++ 0xFE ∷ rest)

  module _ (known : kind_of kinds 0xFE ≡ 3) (fits : length payload ≡ size) (in_range : length_in size ≡ true) (in_time : ticks_in limits (cleared ticks) ≡ true) where
    long_enough : at + 13 + size < length s
    long_enough =
        let n : length s ≡ length there.before + (length h + (length payload + (1 + length rest))) =
        ap length there.joined ∙ simp length-append (omega arith) in
        omega (arith, there.size)

    end_there : get_or s (at + 13 + size) 0 ≡ 0xFE
    end_there =
        let place : at + 13 + size ≡ length there.before + (length h + (length payload + 0)) = omega (arith, there.size) in
        ap (λ (k : ℕ). get_or s k 0) place
        ∙ ap (λ (x : List ℕ). get_or x (length there.before + (length h + (length payload + 0))) 0) there.joined
        ∙ get_or-append-add there.before body (length h + (length payload + 0)) 0
        ∙ get_or-append-add h (payload ++ 0xFE ∷ rest) (length payload + 0) 0
        ∙ get_or-append-add payload (0xFE ∷ rest) 0 0

    kind_there : 3 ≡ kind_at kinds s at
    kind_there = sym (ap (λ (n : ℕ). kind_of kinds (get_or s (at + 13 + n) 0)) size_there ∙ ap (kind_of kinds) end_there ∙ known)

    pub stands_there : next_at limits kinds s at ≡ Some (at + 14 + size)
    stands_there =
        valid_some limits kinds s at
        (six limits kinds s at (omega (arith, long_enough)) (cleared ticks) (ap cleared (sym ticks_there)) in_time size (sym size_there) in_range
        long_enough 3 kind_there (λ e. omega arith) refl)
        ∙ ap (λ (n : ℕ). Some (at + 14 + n)) size_there

-- The places whose byte can be the highest of a valid record's ticks: a record begins only seven bytes before one of them.
abbrev pub marks : List ℕ → ℕ → List ℕ
marks [] i = []
marks (b ∷ s) i = cond (may_ticks b) (i ∷ marks s (suc i)) (marks s (suc i))

pub marks_zeros : (n : ℕ) (s : List ℕ) (i : ℕ) → marks (zeros n ++ s) i ≡ marks s (i + n)
unfolding zeros
marks_zeros zero s i = ap (marks s) (omega arith)
marks_zeros (suc n) s i = marks_zeros n s (suc i) ∙ ap (marks s) (omega arith)

this_one : (k i : ℕ) (b : Bool) (l : List ℕ) → k ≡ i → b ≡ true → Memᴰ k (cond b (i ∷ l) l)
this_one k i true l e is = Memᴰ.head e
this_one k i false l e is = absurd (false≢true is)

passed : (k i : ℕ) (b : Bool) (l : List ℕ) → Memᴰ k l → Memᴰ k (cond b (i ∷ l) l)
passed k i true l a = Memᴰ.tail a
passed k i false l a = a

marked : (s : List ℕ) (i k place : ℕ) → place ≡ i + k → may_ticks (get_or s k 0) ≡ true → Memᴰ place (marks s i)
marked [] i k place is e = absurd (false≢true e)
marked (b ∷ s) i zero place is e = this_one place i (may_ticks b) (marks s (suc i)) (omega arith) e
marked (b ∷ s) i (suc k) place is e = passed place i (may_ticks b) (marks s (suc i)) (marked s (suc i) k place (omega arith) e)

-- of bytes
abbrev pub Bytes : List ℕ → Type 0
Bytes s = (k : ℕ) → get_or s k 0 < 256

abbrev pub small : List ℕ → Bool
small [] = true
small (b ∷ s) = ltb b 256 && small s

pub bytes_small : (s : List ℕ) → small s ≡ true → Bytes s
bytes_small [] e k = omega arith
bytes_small (b ∷ s) e zero = ltb-true b 256 (left_true (ltb b 256) (small s) e)
bytes_small (b ∷ s) e (suc k) = bytes_small s (right_true (ltb b 256) (small s) e) k

pub bytes_zeros : (n : ℕ) → Bytes (zeros n)
unfolding zeros
bytes_zeros zero k = omega arith
bytes_zeros (suc n) zero = omega arith
bytes_zeros (suc n) (suc k) = bytes_zeros n k

pub bytes_append : (a b : List ℕ) → Bytes a → Bytes b → Bytes (a ++ b)
bytes_append [] b p q k = q k
bytes_append (x ∷ a) b p q zero = p 0
bytes_append (x ∷ a) b p q (suc k) = bytes_append a b (λ i. p (suc i)) q k

-- a record begins seven bytes before a mark
module _ (kinds s : List ℕ) (bytes : Bytes s) where
  begins_by : (at m : ℕ) → next_at plausible kinds s at ≡ Some m → (b : Bool) → may_ticks (get_or s (at + 7) 0) ≡ b → Memᴰ (at + 7) (marks s 0)
  begins_by at m e true is = marked s 0 (at + 7) (at + 7) (omega arith) is
  begins_by at m e false is =
      absurd (true≢false (sym (some_valid plausible kinds s at m e).0 ∙ turned_away s at bytes kinds (ap (λ (b : Bool). b && eqb (get_or s (at + 12) 0) 0) is)))

  pub begins_marked : (at m : ℕ) → next_at plausible kinds s at ≡ Some m → Memᴰ (at + 7) (marks s 0)
  begins_marked at m e = begins_by at m e (may_ticks (get_or s (at + 7) 0)) refl
