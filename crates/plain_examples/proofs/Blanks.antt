-- The parts that the example traces are made of: the header, and records whose payload is zeros. Assumes nothing.
use Prim.Native.Nat.{ℕ, zero, suc, ◌+◌}
use lib.ListN.{length, length-append, length-replicate}
use mathlib.Core.Bool.{true}
use mathlib.Core.List.{List, [], ◌∷◌, ◌++◌, append_assoc, append-nil}
use Rattle.std.specs.Prelude.{Some}
use mathlib.Core.Path.{◌≡◌, refl, sym, ap, subst, ◌∙◌}
use native.Mathlib.Omega.{arith}
use Rattle.ticks.specs.Ticks.{cleared, unix_millis}
use Rattle.layout.specs.Layout.{le_at, kind_of}
use Rattle.layout.specs.Fields.{ticks_at}
use Rattle.record.specs.Record.{plausible, ticks_in, length_in, next_at}
use Rattle.plain_examples.specs.Traces.{zeros, low, header, head, blank}
use Rattle.plain_examples.proofs.Parts.{From, from_start, behind, ticks_there, stands_there, marks, marks_zeros, Bytes, small, bytes_small, bytes_zeros, bytes_append}

pub length_zeros : (n : ℕ) → length (zeros n) ≡ n
unfolding zeros
length_zeros n = length-replicate n 0

-- the header: 2,048 bytes without a mark
pub from_header : (x : List ℕ) → From (header ++ x) 2048 x
unfolding header
from_header x =
    behind (low 4 104 ++ zeros 2044) 2048 (length-append (low 4 104) (zeros 2044) ∙ ap (λ (n : ℕ). 4 + n) (length_zeros 2044)) (from_start ((low 4 104 ++ zeros 2044) ++ x))

pub marks_header : (x : List ℕ) → marks (header ++ x) 0 ≡ marks x 2048
unfolding header
marks_header x = marks_zeros 2044 x 4

pub bytes_header : Bytes header
unfolding header
bytes_header = bytes_append (low 4 104) (zeros 2044) (bytes_small (low 4 104) refl) (bytes_zeros 2044)

-- so many further
abbrev pub up : ℕ → ℕ → ℕ
up zero i = i
up (suc k) i = up k (suc i)

up_is : (k i : ℕ) → up k i ≡ i + k
up_is zero i = omega arith
up_is (suc k) i = up_is k (suc i) ∙ omega arith

-- a head of 13 bytes that says plausible ticks and a plausible size, with one mark, at the ticks' highest byte
pub record Head (ticks size : ℕ) : Type 0 where
  pub says_ticks : (x : List ℕ) → le_at 8 (head ticks size ++ x) 0 ≡ ticks
  pub says_size : (x : List ℕ) → le_at 4 (head ticks size ++ x) 9 ≡ size
  pub in_time : ticks_in plausible (cleared ticks) ≡ true
  pub in_range : length_in size ≡ true
  pub one_mark : (x : List ℕ) (i : ℕ) → marks (head ticks size ++ x) i ≡ up 7 i ∷ marks x (up 13 i)
  pub bytes : small (head ticks size) ≡ true

-- a record with such a head and a payload of that size, which ends with the end byte of a Zniffer record
module _ (kinds : List ℕ) (known : kind_of kinds 0xFE ≡ 3) {ticks size : ℕ} (h : Head ticks size) where
  pub record_there :
      {s : List ℕ} {at : ℕ} (payload rest : List ℕ) → length payload ≡ size → From s at (head ticks size ++ (payload ++ 0xFE ∷ rest))
      → (next_at plausible kinds s at ≡ Some (at + 14 + size)) × (unix_millis (ticks_at s at) ≡ unix_millis ticks)
  record_there {s} {at} payload rest fits f = (
    stands_there plausible kinds s (head ticks size) payload rest at ticks size refl h.says_ticks h.says_size f known fits h.in_range h.in_time,
    ap unix_millis (ticks_there plausible kinds s (head ticks size) payload rest at ticks size refl h.says_ticks h.says_size f),
  )

  blank_then : (rest : List ℕ) → blank ticks size ++ rest ≡ head ticks size ++ (zeros size ++ 0xFE ∷ rest)
  blank_then rest = ap (λ (x : List ℕ). head ticks size ++ x) (append_assoc (zeros size) (0xFE ∷ []) rest)

  pub blank_there :
      {s : List ℕ} {at : ℕ} (rest : List ℕ) → From s at (blank ticks size ++ rest)
      → (next_at plausible kinds s at ≡ Some (at + 14 + size)) × (unix_millis (ticks_at s at) ≡ unix_millis ticks)
  blank_there {s} {at} rest f = record_there (zeros size) rest (length_zeros size) (subst (From s at) (blank_then rest) f)

  length_blank : length (blank ticks size) ≡ 14 + size
  length_blank =
      length-append (head ticks size) (zeros size ++ 0xFE ∷ []) ∙ ap (λ (n : ℕ). 13 + n) (length-append (zeros size) (0xFE ∷ []) ∙ ap (λ (n : ℕ). n + 1) (length_zeros size)) ∙ omega arith

  pub behind_blank : {s : List ℕ} {at : ℕ} (rest : List ℕ) → From s at (blank ticks size ++ rest) → From s (at + (14 + size)) rest
  behind_blank rest f = behind (blank ticks size) (14 + size) length_blank f

  pub marks_head : (rest : List ℕ) (i : ℕ) → marks (head ticks size ++ rest) i ≡ (i + 7) ∷ marks rest (i + 13)
  marks_head rest i = h.one_mark rest i ∙ ap (λ (k : ℕ). k ∷ marks rest (up 13 i)) (up_is 7 i) ∙ ap (λ (k : ℕ). (i + 7) ∷ marks rest k) (up_is 13 i)

  pub marks_blank : (rest : List ℕ) (i : ℕ) → marks (blank ticks size ++ rest) i ≡ (i + 7) ∷ marks rest (i + 14 + size)
  marks_blank rest i =
      ap (λ (x : List ℕ). marks x i) (blank_then rest) ∙ marks_head (zeros size ++ 0xFE ∷ rest) i
      ∙ ap (λ (l : List ℕ). (i + 7) ∷ l) (marks_zeros size (0xFE ∷ rest) (i + 13) ∙ ap (marks rest) (omega arith))

  pub bytes_blank : Bytes (blank ticks size)
  bytes_blank =
      bytes_append (head ticks size) (zeros size ++ 0xFE ∷ []) (bytes_small (head ticks size) h.bytes)
      (bytes_append (zeros size) (0xFE ∷ []) (bytes_zeros size) (bytes_small (0xFE ∷ []) refl))

-- the last part
pub ended : {s x : List ℕ} {at : ℕ} → From s at x → From s at (x ++ [])
ended {s} {x} {at} f = subst (From s at) (sym (append-nil x)) f

pub size_of : {s rest : List ℕ} {at : ℕ} → From s at rest → length s ≡ at + length rest
size_of {s} {rest} {at} f = ap length f.joined ∙ length-append f.before rest ∙ ap (λ (n : ℕ). n + length rest) f.size
