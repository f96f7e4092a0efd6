-- Eight bytes of a list, as one number. Assumes nothing.
use Rattle.std.proofs.Common.{◌≡◌, ℕ, zero, suc, ◌+◌, ◌*◌, ◌/◌, ◌^◌, ◌<◌, List, [], length, get_or, take, drop, arith, refl, ap, ◌∙◌, inl, inr}
use Rattle.std.proofs.Math.Nat.{div-one}
use Rattle.std.proofs.lemmas.Bool.{cases_lt}
use Rattle.std.proofs.lemmas.List.{drop-drop, get_or-take, get_or-drop, get_or_past, length-take-le, length-take, length-drop}
use Rattle.std.proofs.lemmas.Nat.{be_bytes_8}
use Rattle.std.specs.Int.{w64, from_be_bytes}
use Rattle.std.specs.Simd.{first_chunks}
use Rattle.checksum.specs.Sum.{sum_from}
use Rattle.checksum.specs.Division.{octets, sum_in}
use Rattle.checksum.proofs.SumSteps.{bytes_more}

-- the bytes of the number that std makes of eight bytes
octets_back : (word : List ℕ) → length word ≡ 8 → ((k : ℕ) → get_or word k 0 < 2 ^ 8) → octets 8 (from_be_bytes w64 word) ≡ word
octets_back word eight bytes = simp div-one (be_bytes_8 word _ eight bytes refl)

-- a chunk of a list
chunk : (n k : ℕ) (s : List ℕ) (i : ℕ) → i < k → get_or (first_chunks n k s) i [] ≡ take n (drop (i * n) s)
chunk n zero s i h = absurd (omega arith)
chunk n (suc k) s zero h =
    let start : 0 ≡ 0 * n = omega arith in
    ap (λ (m : ℕ). take n (drop m s)) start
chunk n (suc k) s (suc i) h =
    let on : n + i * n ≡ suc i * n = omega arith in
    chunk n k (drop n s) i (omega arith) ∙ ap (take n) (drop-drop (i * n) n s ∙ ap (λ (m : ℕ). drop m s) on)

-- its bytes are bytes of the list
within : (n : ℕ) (s : List ℕ) (k : ℕ) → ((j : ℕ) → get_or s j 0 < 2 ^ 8) → get_or (take n s) k 0 < 2 ^ 8
within n s k bytes =
    elim (cases_lt k n) [
      | inl h ↦ rw (get_or-take n s k 0 h) (bytes k)
      | inr h ↦ rw (get_or_past (take n s) k 0 (simp length-take (omega arith))) (omega arith)
    ]

-- eight bytes of the list more
pub word_more : (s : List ℕ) (words : List (List ℕ)) (i register word next : ℕ) → ((k : ℕ) → get_or s k 0 < 2 ^ 8)
    → words ≡ first_chunks 8 (length s / 8) s → i < length s / 8 → word ≡ from_be_bytes w64 (get_or words i [])
    → sum_in next ≡ sum_from (sum_in register) (octets 8 word)
    → sum_from (sum_in next) (drop ((i + 1) * 8) s) ≡ sum_from (sum_in register) (drop (i * 8) s)
word_more s words i register word next bytes chunks h joined summed =
    let whole : length (take 8 (drop (i * 8) s)) ≡ 8 = length-take-le 8 (drop (i * 8) s) (simp length-drop (omega arith)) in
    let here : get_or words i [] ≡ take 8 (drop (i * 8) s) = rw chunks (chunk 8 (length s / 8) s i h) in
    let parts : octets 8 word ≡ take 8 (drop (i * 8) s) =
    rw (joined, here)
    (octets_back (take 8 (drop (i * 8) s)) whole (λ k. within 8 (drop (i * 8) s) k (λ j. rw (get_or-drop (i * 8) s j 0) (bytes (i * 8 + j))))) in
    let on : (i + 1) * 8 ≡ i * 8 + 8 = omega arith in
    rw (summed, parts, on) (bytes_more 8 (sum_in register) s (i * 8))
