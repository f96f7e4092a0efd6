-- One zero more, and the bytes of a number as std writes them. Assumes nothing.
use Prim.Native.Nat.{ℕ, zero, suc, ◌+◌, ◌*◌, ◌/◌, ◌%◌, ◌^◌}
use mathlib.Core.List.{[], ◌∷◌, ◌++◌}
use mathlib.Core.Path.{◌≡◌, refl, sym, ap, ◌∙◌}
use native.Mathlib.Omega.{arith}
use Rattle.std.proofs.lemmas.List.{replicate-append-replicate}
use Rattle.std.proofs.Math.Nat.{div-div-eq-div-mul, pow-succ'}
use Rattle.std.specs.Int.{byte_at, bytes_low_first}
use Rattle.plain_examples.specs.Traces.{zeros, low}

pub one_more_zero : (n : ℕ) → zeros n ++ (0 ∷ []) ≡ zeros (n + 1)
unfolding zeros
one_more_zero n = replicate-append-replicate n 1 0

byte_is : (i n : ℕ) → byte_at i n ≡ n / 256 ^ i % 256
byte_is zero n = omega arith
byte_is (suc i) n = refl

-- k bytes of a number, from byte i upward
low_first : (i k n : ℕ) → bytes_low_first i k n ≡ low k (n / 256 ^ i)
low_first i zero n = refl
low_first i (suc k) n =
    let power : 256 ^ suc i ≡ 256 ^ i * 256 = omega (arith, pow-succ' 256 i) in
    let below : n / 256 ^ suc i ≡ n / 256 ^ i / 256 = ap (λ (p : ℕ). n / p) power ∙ sym (div-div-eq-div-mul n (256 ^ i) 256) in
    rw (byte_is i n, low_first (suc i) k n, below) refl

pub low_bytes : (k n : ℕ) → bytes_low_first 0 k n ≡ low k n
low_bytes k n = low_first 0 k n ∙ ap (low k) (omega arith)
