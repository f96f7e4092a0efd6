-- Numbers of n bytes, for every n: past the end they are 0, two of them side by side make one, and a number of bytes has its bound. Assumes nothing.
use Prim.Native.Nat.{ℕ, zero, suc, ◌+◌, ◌*◌, ◌^◌, ◌≤◌, ◌<◌}
use lib.ListN.{length, get_or, get_or-eq_default}
use lib.Pow.{pow-add}
use mathlib.Core.List.{List}
use mathlib.Core.Path.{◌≡◌, refl}
use native.Mathlib.Nat.{add-zero, add-suc, add_assoc, mul_assoc, mul-add, mul-zero, pow-succ', mul-le-mul_left}
use native.Mathlib.Omega.{arith}
use Rattle.layout.specs.Layout.{le_at}

-- past the end a number is 0
pub past : (n : ℕ) (s : List ℕ) (at : ℕ) → length s ≤ at → le_at n s at ≡ 0
unfolding le_at
past zero s at h = refl
past (suc n) s at h = simp (past n s at h, get_or-eq_default s 0 {n = at + n} (omega arith), mul-zero)

-- the bytes of the small numbers, written out
pub two : (s : List ℕ) (at : ℕ) → le_at 2 s at ≡ get_or s at 0 + 256 * get_or s (at + 1) 0
unfolding le_at
two s at = simp add-zero (omega arith)

pub four : (s : List ℕ) (at : ℕ)
    → le_at 4 s at ≡ get_or s at 0 + 256 * get_or s (at + 1) 0 + 65536 * get_or s (at + 2) 0 + 16777216 * get_or s (at + 3) 0
unfolding le_at
four s at = simp add-zero (omega arith)

pub eight_bytes : (s : List ℕ) (at : ℕ)
    → le_at 8 s at
    ≡ get_or s at 0 + 256 * get_or s (at + 1) 0 + 65536 * get_or s (at + 2) 0 + 16777216 * get_or s (at + 3) 0
    + 4294967296 * (get_or s (at + 4) 0 + 256 * get_or s (at + 5) 0 + 65536 * get_or s (at + 6) 0 + 16777216 * get_or s (at + 7) 0)
unfolding le_at
eight_bytes s at = simp add-zero (omega arith)

-- the number of m + n bytes is that of m bytes and, 256 ^ m times, that of the n after them
pub beside : (m n : ℕ) (s : List ℕ) (at : ℕ) → le_at (m + n) s at ≡ le_at m s at + 256 ^ m * le_at n s (at + m)
unfolding le_at
beside m zero s at = simp (add-zero, mul-zero)
beside m (suc n) s at = rw (add-suc m n) (rw (beside m n s at) (rw (pow-add 256 m n) (rw (add_assoc at m n) (simp (mul-add, mul_assoc, add_assoc)))))

pub eight : (s : List ℕ) (at : ℕ) → le_at 8 s at ≡ le_at 4 s at + 4294967296 * le_at 4 s (at + 4)
eight s at = beside 4 4 s at

-- a number of n bytes is below 256 ^ n
pub below : (n : ℕ) (s : List ℕ) (at : ℕ) → ((k : ℕ) → get_or s k 0 < 256) → le_at n s at < 256 ^ n
unfolding le_at
below zero s at bytes = omega arith
below (suc n) s at bytes =
    let rest : le_at n s at < 256 ^ n = below n s at bytes in
    let top : 256 ^ n * get_or s (at + n) 0 ≤ 256 ^ n * 255 = mul-le-mul_left (256 ^ n) (omega (arith, bytes (at + n))) in
    omega (arith, pow-succ' 256 n)
