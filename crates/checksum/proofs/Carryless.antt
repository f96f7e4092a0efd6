-- Sums without carries. A function that passes through them is known, below a power of two, by what it makes of the powers of two: two
-- such functions that agree there, by one computed test, agree at every number below. Assumes nothing.
use Prim.Native.Nat.{ℕ, zero, suc, ◌+◌, ◌*◌, ◌/◌, ◌%◌, ◌^◌, ◌<◌}
use lib.Arith.{bin_ind, digits_div, digits_mod}
use lib.Bits.{differ, bit_xor, xor_step, xor_comm, xor_self, xor_shr, xor_mod, xor_block, xor_shifted}
use lib.Dec.{eqb}
use lib.Pow.{pow_pos, pow-add, split, high, low as low_part}
use mathlib.Core.Bool.{Bool, true, ◌&&◌}
use mathlib.Core.Path.{◌≡◌, refl, sym, ap, ap₂, ◌∙◌}
use native.Mathlib.Nat.{add-zero, zero-add, mod-lt, pow-suc, one-mul, zero-mul, div-lt_iff_lt-mul}
use native.Mathlib.Omega.{arith}
use borrow.Author.Tests.{eqb-true}
use Rattle.choice.proofs.Choice.{left_true, right_true}

-- two digits
differ_lt : (x y : ℕ) → x < 2 → y < 2 → differ x y < 2
differ_lt zero y hx hy = hy
differ_lt (suc zero) zero hx hy = hx
differ_lt (suc zero) (suc zero) hx hy = omega arith
differ_lt (suc zero) (suc (suc y)) hx hy = absurd (omega arith)
differ_lt (suc (suc x)) y hx hy = absurd (omega arith)

differ_assoc : (x y z : ℕ) → x < 2 → y < 2 → z < 2 → differ (differ x y) z ≡ differ x (differ y z)
differ_assoc zero y z hx hy hz = refl
differ_assoc (suc zero) zero z hx hy hz = refl
differ_assoc (suc zero) (suc zero) zero hx hy hz = refl
differ_assoc (suc zero) (suc zero) (suc zero) hx hy hz = refl
differ_assoc (suc zero) (suc zero) (suc (suc z)) hx hy hz = absurd (omega arith)
differ_assoc (suc zero) (suc (suc y)) z hx hy hz = absurd (omega arith)
differ_assoc (suc (suc x)) y z hx hy hz = absurd (omega arith)

digit : (n : ℕ) → n % 2 < 2
digit n = omega arith

two_digits : (a b : ℕ) → differ (a % 2) (b % 2) < 2
two_digits a b = differ_lt (a % 2) (b % 2) (digit a) (digit b)

xor_half : (a b : ℕ) → bit_xor a b / 2 ≡ bit_xor (a / 2) (b / 2)
xor_half a b = ap (λ (x : ℕ). x / 2) (xor_step a b) ∙ digits_div (bit_xor (a / 2) (b / 2)) (two_digits a b)

xor_odd : (a b : ℕ) → bit_xor a b % 2 ≡ differ (a % 2) (b % 2)
xor_odd a b = ap (λ (x : ℕ). x % 2) (xor_step a b) ∙ digits_mod (bit_xor (a / 2) (b / 2)) (two_digits a b)

pub xor_assoc : (a b c : ℕ) → bit_xor (bit_xor a b) c ≡ bit_xor a (bit_xor b c)
xor_assoc a =
    bin_ind (λ (n : ℕ). (b c : ℕ) → bit_xor (bit_xor n b) c ≡ bit_xor n (bit_xor b c)) (λ b c. refl)
    (λ n ih b c.
    xor_step (bit_xor n b) c
    ∙ ap₂ (λ (x y : ℕ). bit_xor x (c / 2) * 2 + differ y (c % 2)) (xor_half n b) (xor_odd n b)
    ∙ ap₂ (λ (x y : ℕ). x * 2 + y) (ih (b / 2) (c / 2)) (differ_assoc (n % 2) (b % 2) (c % 2) (digit n) (digit b) (digit c))
    ∙ sym (ap₂ (λ (x y : ℕ). bit_xor (n / 2) x * 2 + differ (n % 2) y) (xor_half b c) (xor_odd b c))
    ∙ sym (xor_step n (bit_xor b c))) a

pub xor_swap : (a b c d : ℕ) → bit_xor (bit_xor a b) (bit_xor c d) ≡ bit_xor (bit_xor a c) (bit_xor b d)
xor_swap a b c d =
    xor_assoc a b (bit_xor c d)
    ∙ ap (bit_xor a) (sym (xor_assoc b c d) ∙ ap (λ (x : ℕ). bit_xor x d) (xor_comm b c) ∙ xor_assoc c b d)
    ∙ sym (xor_assoc a c (bit_xor b d))

-- a function that passes through such sums
pub record Passes (f : ℕ → ℕ) : Type 0 where
  pub through : (a b : ℕ) → f (bit_xor a b) ≡ bit_xor (f a) (f b)

pub nothing : Passes (λ a. 0)
nothing = record { through = λ a b. refl }

pub itself : Passes (λ a. a)
itself = record { through = λ a b. refl }

pub down : (k : ℕ) → Passes (λ a. a / 2 ^ k)
down k = record { through = λ a b. xor_shr a b k }

pub low : (k : ℕ) → Passes (λ a. a % 2 ^ k)
low k = record { through = λ a b. xor_mod a b k }

pub up : (k : ℕ) → Passes (λ a. a * 2 ^ k)
up k =
    record {
      through = λ a b.
          sym (add-zero (bit_xor a b * 2 ^ k))
          ∙ sym (xor_block k a b 0 0 (pow_pos k) (pow_pos k))
          ∙ ap₂ bit_xor (add-zero (a * 2 ^ k)) (add-zero (b * 2 ^ k));
    }

pub both : {f g : ℕ → ℕ} → Passes f → Passes g → Passes (λ a. bit_xor (f a) (g a))
both {f} {g} hf hg = record { through = λ a b. ap₂ bit_xor (hf.through a b) (hg.through a b) ∙ xor_swap (f a) (f b) (g a) (g b) }

pub after : {f g : ℕ → ℕ} → Passes f → Passes g → Passes (λ a. f (g a))
after {f} {g} hf hg = record { through = λ a b. ap f (hg.through a b) ∙ hf.through (g a) (g b) }

-- nothing to nothing
at_zero : {f : ℕ → ℕ} → Passes f → f 0 ≡ 0
at_zero {f} h = h.through 0 0 ∙ xor_self (f 0)

-- the test: equal at the first w powers of two
abbrev pub same : (ℕ → ℕ) → (ℕ → ℕ) → ℕ → Bool
same f g zero = true
same f g (suc w) = eqb (f (2 ^ w)) (g (2 ^ w)) && same f g w

-- a number below 2 ^ (w + 1): its highest digit, and the rest
top : (f g : ℕ → ℕ) → Passes f → Passes g → (w c r : ℕ) → c < 2 → r < 2 ^ w → f (2 ^ w) ≡ g (2 ^ w) → f r ≡ g r
    → f (c * 2 ^ w + r) ≡ g (c * 2 ^ w + r)
top f g hf hg w zero r hc hr e rest = rw (zero-mul (2 ^ w), zero-add r) rest
top f g hf hg w (suc zero) r hc hr e rest =
    rw (← (xor_shifted 1 w r hr), one-mul (2 ^ w))
    (hf.through (2 ^ w) r ∙ ap₂ bit_xor e rest ∙ sym (hg.through (2 ^ w) r))
top f g hf hg w (suc (suc c)) r hc hr e rest = absurd (omega arith)

highest : (a w : ℕ) → a < 2 ^ suc w → a / 2 ^ w < 2
highest a w h = (div-lt_iff_lt-mul (pow_pos w)).1 (omega (arith, pow-suc 2 w))

pub agree : (f g : ℕ → ℕ) → Passes f → Passes g → (w : ℕ) → same f g w ≡ true → (a : ℕ) → a < 2 ^ w → f a ≡ g a
agree f g hf hg zero t a h =
    let none : a ≡ 0 = omega arith in
    rw none (at_zero hf ∙ sym (at_zero hg))
agree f g hf hg (suc w) t a h =
    let e : f (2 ^ w) ≡ g (2 ^ w) = eqb-true _ _ (left_true _ (same f g w) t) in
    let rest : f (a % 2 ^ w) ≡ g (a % 2 ^ w) = agree f g hf hg w (right_true (eqb (f (2 ^ w)) (g (2 ^ w))) _ t) (a % 2 ^ w) (mod-lt a (pow_pos w)) in
    rw (split a w) at (top f g hf hg w (a / 2 ^ w) (a % 2 ^ w) (highest a w h) (mod-lt a (pow_pos w)) e rest)

-- the same of functions of two numbers, of j and of k bits: the two as one number
pub together : (f g : ℕ → ℕ → ℕ) (j k : ℕ) → Passes (λ z. f (z / 2 ^ k) (z % 2 ^ k)) → Passes (λ z. g (z / 2 ^ k) (z % 2 ^ k))
    → same (λ z. f (z / 2 ^ k) (z % 2 ^ k)) (λ z. g (z / 2 ^ k) (z % 2 ^ k)) (j + k) ≡ true
    → (a b : ℕ) → a < 2 ^ j → b < 2 ^ k → f a b ≡ g a b
together f g j k hf hg t a b ha hb =
    let below : (a * 2 ^ k + b) / 2 ^ k < 2 ^ j = rw (high a k hb) ha in
    let fits : a * 2 ^ k + b < 2 ^ (j + k) = rw (pow-add 2 j k) ((div-lt_iff_lt-mul (pow_pos k)).0 below) in
    rw (high a k hb, low_part a k hb) at
    (agree (λ z. f (z / 2 ^ k) (z % 2 ^ k)) (λ z. g (z / 2 ^ k) (z % 2 ^ k)) hf hg (j + k) t (a * 2 ^ k + b) fits)
