-- Texts read byte after byte: forms, digits and their number, from a place on. Assumes nothing.
use Rattle.std.proofs.Common.{◌≡◌, ℕ, zero, suc, ◌+◌, ◌-◌, ◌*◌, ◌^◌, ◌≤◌, ◌<◌, List, [], ◌∷◌, length, get_or, drop, arith, refl, sym, ap, ◌∙◌}
use Rattle.std.proofs.lemmas.Grind.{common_steps}
use Rattle.std.specs.Prelude.{Bool, true, false, ◌&&◌, cond, leb, None, Some}
use borrow.Author.Tests.{leb-true}
use Rattle.std.specs.Char.{digit_value}
use Rattle.std.proofs.lemmas.List.{at_drop_more}
use Rattle.std.proofs.Math.ListN.{drop_of_length-le}
use Rattle.std.proofs.Math.Nat.{pow-le-pow_right, pow-suc}
use Rattle.std.proofs.Math.Numerals.{add-one}
use Rattle.std.proofs.lemmas.Bool.{and_parts}
use Rattle.std.proofs.Math.Nat.{mul-le-mul_right}
use Rattle.written.specs.Written.{number_in, is_number, value_of, is_digit, fits_byte, fits_form, all_digits, value_from}

and-false : (a : Bool) → (a && false) ≡ false
and-false true = refl
and-false false = refl

-- a text of another length than the form
pub unequal : (f s : List ℕ) → (length s ≡ length f → ⊥) → fits_form f s ≡ false
unfolding fits_form
unequal [] [] h = absurd (h refl)
unequal [] (c ∷ cs) h = refl
unequal (f ∷ fs) [] h = refl
unequal (f ∷ fs) (c ∷ cs) h = rw (unequal fs cs (λ e. h (ap suc e))) (and-false (fits_byte f c))

-- a text with a byte that does not fit
misfits : (f s : List ℕ) (k : ℕ) → k < length f → k < length s → fits_byte (get_or f k 0) (get_or s k 0) ≡ false → fits_form f s ≡ false
unfolding fits_form
misfits [] s k h l e = absurd (omega arith)
misfits (f ∷ fs) [] k h l e = refl
misfits (f ∷ fs) (c ∷ cs) zero h l e = rw e
misfits (f ∷ fs) (c ∷ cs) (suc k) h l e = rw (misfits fs cs k (omega arith) (omega arith) e) (and-false (fits_byte f c))

-- a text whose bytes fit
all_fit : (f s : List ℕ) → length s ≡ length f → ((k : ℕ) → k < length f → fits_byte (get_or f k 0) (get_or s k 0) ≡ true) → fits_form f s ≡ true
unfolding fits_form
all_fit [] [] e h = refl
all_fit [] (c ∷ cs) e h = absurd (omega arith)
all_fit (f ∷ fs) [] e h = absurd (omega arith)
all_fit (f ∷ fs) (c ∷ cs) e h = rw (h 0 (omega arith)) (all_fit fs cs (omega arith) (λ k l. h (suc k) (omega arith)))

-- what a test of each pair of bytes says of the whole
pub by_bytes : (f s : List ℕ) (b : Bool) → length s ≡ length f
    → (b ≡ true → (k : ℕ) → k < length f → fits_byte (get_or f k 0) (get_or s k 0) ≡ true)
    → (b ≡ false → (k : ℕ) × ((k < length f) × (fits_byte (get_or f k 0) (get_or s k 0) ≡ false)))
    → b ≡ fits_form f s
by_bytes f s true e t n = sym (all_fit f s e (t refl))
by_bytes f s false e t n = sym (misfits f s (n refl).0 (n refl).1.0 (omega (arith, e, (n refl).1.0)) (n refl).1.1)

-- a digit's value by std
is_one : (c : ℕ) → digit_value c < 10 → (is_digit c ≡ true) × (c - 48 ≡ digit_value c)
is_one c h = grind (arith, common_steps)

is_none : (c : ℕ) → (digit_value c < 10 → ⊥) → is_digit c ≡ false
is_none c h = grind (arith, common_steps)

-- a number read digit by digit, from the place at hand on
module _ (s : List ℕ) (i : ℕ) where
  pub digits_next : i < length s → digit_value (get_or s i 0) < 10 → all_digits (drop i s) ≡ all_digits (drop (i + 1) s)
  unfolding all_digits
  digits_next h d = at_drop_more all_digits s i 0 h ∙ ap (λ (b : Bool). b && all_digits (drop (i + 1) s)) (is_one (get_or s i 0) d).0

  pub no_digits : i < length s → (digit_value (get_or s i 0) < 10 → ⊥) → all_digits (drop i s) ≡ false
  unfolding all_digits
  no_digits h d = at_drop_more all_digits s i 0 h ∙ ap (λ (b : Bool). b && all_digits (drop (i + 1) s)) (is_none (get_or s i 0) d)

  pub digits_end : length s ≤ i → all_digits (drop i s) ≡ true
  unfolding all_digits
  digits_end h = rw (drop_of_length-le s h)

  pub value_next : (n d : ℕ) → i < length s → d < 10 → digit_value (get_or s i 0) ≡ d
      → value_from n (drop i s) ≡ value_from (10 * n + d) (drop (i + 1) s)
  unfolding value_from
  value_next n d h l e = at_drop_more (value_from n) s i 0 h ∙ ap (λ (v : ℕ). value_from (10 * n + v) (drop (i + 1) s)) ((is_one (get_or s i 0) (omega arith)).1 ∙ e)

  pub value_end : (n : ℕ) → length s ≤ i → value_from n (drop i s) ≡ n
  unfolding value_from
  value_end n h = rw (drop_of_length-le s h)

-- so many digits bound a number
pub bound_next : (i n d : ℕ) → n < 10 ^ i → d < 10 → 10 * n + d < 10 ^ (i + 1)
bound_next i n d h l = rw (add-one i, pow-suc 10 i) (omega arith)

pub most : (i n : ℕ) → n < 10 ^ i → i ≤ 17 → n < 100000000000000000
most i n h l = let p : 10 ^ i ≤ 10 ^ 17 = pow-le-pow_right {n = 10} (omega arith) l in omega arith

pub ruleset number = (digits_next, no_digits, digits_end, value_next, value_end, bound_next, most)

-- the number of a text of digits is below a power of ten
digit_small : (c : ℕ) → is_digit c ≡ true → c - 48 < 10
digit_small c e = grind (arith, common_steps)

value_below : (s : List ℕ) (n : ℕ) → all_digits s ≡ true → value_from n s < (n + 1) * 10 ^ length s
unfolding all_digits value_from
value_below [] n e = omega arith
value_below (c ∷ cs) n e =
    let parts = and_parts (is_digit c) (all_digits cs) e in
    let rest = value_below cs (10 * n + (c - 48)) parts.1 in
    let small = digit_small c parts.0 in
    let more : (10 * n + (c - 48) + 1) * 10 ^ length cs ≤ (10 * n + 10) * 10 ^ length cs = mul-le-mul_right (10 ^ length cs) (omega arith) in
    rw (pow-suc 10 (length cs)) (omega arith)

below_if : (s : List ℕ) (n : ℕ) (b : Bool) → is_number s ≡ b → cond b (Some (value_of s)) None ≡ Some n → n < 100000000000000000
below_if s n true t e =
    let long = and_parts (leb 1 (length s)) (leb (length s) 17 && all_digits s) t in
    let digits = and_parts (leb (length s) 17) (all_digits s) long.1 in
    let same : value_of s ≡ n = cc in
    let below = value_below s 0 digits.1 in
    let short : length s ≤ 17 = leb-true _ _ digits.0 in
    let most : 10 ^ length s ≤ 10 ^ 17 = pow-le-pow_right {n = 10} (omega arith) short in
    omega arith
below_if s n false t e = cc

pub number_below : (s : List ℕ) (n : ℕ) → number_in s ≡ Some n → n < 100000000000000000
unfolding number_in
number_below s n e = below_if s n (is_number s) refl e
