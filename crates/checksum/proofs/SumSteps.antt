-- More bytes of a list, one byte more, and none. Assumes nothing.
use Rattle.std.proofs.Common.{◌≡◌, ℕ, ◌+◌, ◌≤◌, ◌<◌, List, [], ◌∷◌, ◌++◌, length, get_or, take, drop, refl, sym, ap, ◌∙◌}
use Rattle.std.proofs.Math.ListN.{drop_of_length-le}
use Rattle.std.proofs.lemmas.List.{drop-drop, take-append-drop, at_drop_more}
use Rattle.checksum.specs.Sum.{sum_byte, sum_from}

-- the bytes of one list, then those of another
from_append : (sum : ℕ) (xs ys : List ℕ) → sum_from sum (xs ++ ys) ≡ sum_from (sum_from sum xs) ys
unfolding sum_from
from_append sum [] ys = refl
from_append sum (x ∷ xs) ys = from_append (sum_byte sum x) xs ys

pub bytes_more : (n sum : ℕ) (bytes : List ℕ) (i : ℕ)
    → sum_from (sum_from sum (take n (drop i bytes))) (drop (i + n) bytes) ≡ sum_from sum (drop i bytes)
bytes_more n sum bytes i =
    ap (sum_from (sum_from sum (take n (drop i bytes)))) (sym (drop-drop n i bytes))
    ∙ sym (from_append sum (take n (drop i bytes)) (drop n (drop i bytes)))
    ∙ ap (sum_from sum) (take-append-drop n (drop i bytes))

-- one byte more
pub byte_more : (sum : ℕ) (bytes : List ℕ) (i : ℕ) → i < length bytes
    → sum_from (sum_byte sum (get_or bytes i 0)) (drop (i + 1) bytes) ≡ sum_from sum (drop i bytes)
unfolding sum_from
byte_more sum bytes i h = sym (at_drop_more (sum_from sum) bytes i 0 h)

-- no byte more
pub bytes_done : (sum : ℕ) (bytes : List ℕ) (i : ℕ) → length bytes ≤ i → sum_from sum (drop i bytes) ≡ sum
unfolding sum_from
bytes_done sum bytes i h = rw (drop_of_length-le bytes h)
