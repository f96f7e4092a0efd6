-- How long a text is at most: a number of 13 digits, a line of so many fields, a row's line. Assumes nothing.
use Prim.Native.Nat.{ℕ, zero, suc, ◌+◌, ◌*◌, ◌/◌, ◌%◌, ◌^◌, ◌≤◌, ◌<◌}
use lib.Dec.{ltb}
use lib.IntN.{ℤ, pos, negsuc, nat_abs}
use lib.ListN.{length, length-append}
use mathlib.Core.List.{List, [], ◌∷◌, ◌++◌, flat_map}
use native.Mathlib.Nat.{pow-suc, div-lt_iff_lt-mul}
use native.Mathlib.Omega.{arith}
use borrow.Author.Tests.{ltb-false}
use Rattle.choice.proofs.Choice.{by_choice}
use Rattle.text.specs.Texts.{space, digits_of, decimal_text, signed_text}
use Rattle.lines.specs.Lines.{newline, spaced, line_text, origin_fields, radio_fields, mpdu_fields, row_text}
use Rattle.rows.specs.declared.Row.{Row}
use Rattle.listing_laws.proofs.Each.{Each}

-- a number below a power of ten has no more digits than the power counts
digits_most : (k turns n : ℕ) → n < 10 ^ suc k → length (digits_of turns n) ≤ suc k
unfolding digits_of
digits_most k zero n h = omega arith
digits_most k (suc turns) n h =
    by_choice (λ (l : List ℕ). length l ≤ suc k) (ltb n 10) {a = (48 + n) ∷ []} {b = digits_of turns (n / 10) ++ ((48 + n % 10) ∷ [])}
    (λ e. omega arith)
    (λ e. rw (length-append (digits_of turns (n / 10)) ((48 + n % 10) ∷ [])) (more k turns n (λ j. digits_most j turns (n / 10)) h (ltb-false n 10 e)))
  where
    more : (k turns n : ℕ) → ((j : ℕ) → n / 10 < 10 ^ suc j → length (digits_of turns (n / 10)) ≤ suc j) → n < 10 ^ suc k → 10 ≤ n
        → length (digits_of turns (n / 10)) + 1 ≤ suc k
    more zero turns n less h l = absurd (omega arith)
    more (suc k) turns n less h l =
        let tenth : n / 10 < 10 ^ suc k = (div-lt_iff_lt-mul {k = 10} (omega arith)).1 (rw (pow-suc 10 (suc k)) at h) in
        omega (arith, less k tenth)

-- the first number of 14 digits
abbrev pub most : ℕ
most = 10000000000000

pub decimal_most : (n : ℕ) → n < most → length (decimal_text n) ≤ 13
unfolding decimal_text
decimal_most n h = digits_most 12 (suc n) n h

pub signed_most : (z : ℤ) → nat_abs z < most → length (signed_text z) ≤ 14
unfolding signed_text
signed_most (pos n) h = omega (arith, decimal_most n h)
signed_most (negsuc n) h = omega (arith, decimal_most (suc n) h)

-- a field of 14 bytes
abbrev pub Short : List ℕ → Type 0
Short f = length f ≤ 14

pub number : (n : ℕ) → n < most → Short (decimal_text n)
number n h = omega (arith, decimal_most n h)

spaced_most : (fs : List (List ℕ)) → Each Short fs → length (spaced fs) ≤ 15 * length fs
unfolding spaced
spaced_most [] h = omega arith
spaced_most (f ∷ fs) h = omega (arith, spaced_most fs h.1, length-append (space ∷ f) (spaced fs), h.0)

pub line_most : (letter : ℕ) (fs : List (List ℕ)) → Each Short fs → length (line_text letter fs) ≤ 2 + 15 * length fs
unfolding line_text
line_most letter fs h = omega (arith, spaced_most fs h, length-append (letter ∷ spaced fs) (newline ∷ []))

-- a row whose numbers have 13 digits at most
pub record Small (r : Row) : Type 0 where
  pub «record» : r.«record» < most
  pub position : r.position < most
  pub millis : nat_abs r.millis < most
  pub gap : nat_abs r.gap < most
  pub region : r.region < most
  pub channel : r.channel < most
  pub speed : r.speed < most
  pub rssi : nat_abs r.rssi < most
  pub beams : r.beam_count < most
  pub mpdu : r.mpdu < most
  pub mpdu_len : r.mpdu_len < most

pub row_most : (r : Row) → Small r → length (row_text r) ≤ 182
unfolding row_text
row_most r s =
    line_most 0x46 (origin_fields r ++ (radio_fields r ++ mpdu_fields r)) (
      number r.«record» s.«record»,
      (
        number r.position s.position,
        (
          signed_most r.millis s.millis,
          (
            signed_most r.gap s.gap,
            (
              omega arith,
              (
                number r.region s.region,
                (
                  number r.channel s.channel,
                  (
                    number r.speed s.speed,
                    (
                      signed_most r.rssi s.rssi,
                      (number r.beam_count s.beams, (number r.mpdu s.mpdu, (number r.mpdu_len s.mpdu_len, tt))),
                    ),
                  ),
                ),
              ),
            ),
          ),
        ),
      ),
    )

pub rows_most : (rows : List Row) → Each Small rows → length (flat_map row_text rows) ≤ 182 * length rows
unfolding flat_map
rows_most [] h = omega arith
rows_most (r ∷ rows) h = omega (arith, row_most r h.0, rows_most rows h.1, length-append (row_text r) (flat_map row_text rows))
