-- Texts that names are made of: entries of tables, times and bytes. Assumes nothing.
use Prim.Native.Nat.{ℕ, zero, suc, ◌+◌, ◌≤◌, ◌<◌}
use borrow.Author.Tests.{lt-ltb, le-ltb, eqb-true, eqb-false, leb-true, leb-false}
use lib.Dec.{eqb, leb}
use lib.IntN.{ℤ, pos, negsuc, ◌+ℤ◌}
use lib.ListN.{length, get_or}
use mathlib.Core.Bool.{true, false}
use mathlib.Core.List.{List, [], ◌∷◌}
use mathlib.Core.Path.{◌≡◌, refl, ap, ◌∙◌}
use mir.Syntax.{w64}
use mir.Val.{to_z, of_z, SFits}
use mir.ValLaws.{to_z-of_z}
use native.Mathlib.Omega.{arith}
use Rattle.std.specs.Prelude.{Option, None, Some, SomeIff, unsigned_abs}
use Rattle.std.specs.Int.{FitsUnsigned}
use Rattle.std.specs.Option.{unwrap_or}
use Rattle.std.proofs.lemmas.Int.{ints}
use Rattle.calendar.specs.Calendar.{date_of}
use Rattle.written.specs.Written.{unix_epoch, iso_text}
use Rattle.choice.proofs.Choice.{either}
use Rattle.text.specs.Texts.{signed_text, hex_text}
use Rattle.names.specs.Names.{years_end, instant_of, time_text, entry_in, bytes_text}

-- bytes, and none
pub no_bytes : (s : List ℕ) → eqb (length s) 0 ≡ true → 0x2D ∷ [] ≡ bytes_text s
unfolding bytes_text
no_bytes [] e = refl
no_bytes (b ∷ bs) e = absurd (omega (arith, eqb-true _ _ e))

pub some_bytes : (s : List ℕ) → eqb (length s) 0 ≡ false → hex_text s ≡ bytes_text s
unfolding bytes_text
some_bytes [] e = absurd (eqb-false 0 0 e refl)
some_bytes (b ∷ bs) e = refl

module _ (table : List ℕ) (width : ℕ) where
  -- the first n entries of a table from one on
  abbrev pub entries : ℕ → ℕ → List (List ℕ)
  entries zero from = []
  entries (suc n) from = entry_in table width from ∷ entries n (from + 1)

  entry_from : (n from k : ℕ) → k < n → get_or (entries n from) k [] ≡ entry_in table width (from + k)
  entry_from zero from k h = absurd (omega arith)
  entry_from (suc n) from zero h = ap (entry_in table width) (omega arith)
  entry_from (suc n) from (suc k) h = entry_from n (from + 1) k (omega arith) ∙ ap (entry_in table width) (omega arith)

  -- each of them, by its index
  pub entry_at : (n i k : ℕ) → k < n → k ≡ i → get_or (entries n 0) k [] ≡ entry_in table width i
  entry_at n i k h e = entry_from n 0 k h ∙ ap (entry_in table width) (omega arith)

-- the instant of a time, before the epoch and after it
fits_after : (n : ℕ) → SFits w64 (pos n) → FitsUnsigned w64 (pos (unix_epoch + n))
fits_after n f = omega (arith, ints, f.sfits)

pub instant_is : (z : ℤ) (r : Option ℕ) → SFits w64 z → SomeIff r (FitsUnsigned w64 (pos unix_epoch +ℤ z)) (unsigned_abs (pos unix_epoch +ℤ z))
    → unwrap_or r (unix_epoch + years_end) ≡ instant_of z
unfolding instant_of
instant_is (pos n) None f h = absurd (h (fits_after n f))
instant_is (pos n) (Some x) f h = h.1
instant_is (negsuc n) None f h =
    either (leb (suc n) unix_epoch)
    (λ e. absurd (h (omega (arith, ints, leb-true _ _ e), omega (arith, ints, leb-true _ _ e))))
    (λ e. simp e)
instant_is (negsuc n) (Some x) f h =
    either (leb (suc n) unix_epoch)
    (λ e. simp e (omega (arith, ints, h.1, leb-true _ _ e)))
    (λ e. absurd (omega (arith, ints, h.0.0, leb-false _ _ e)))

-- a time by its instant
with_date : (z : ℤ) → instant_of z < unix_epoch + years_end → iso_text (date_of (instant_of z)) ≡ time_text z
unfolding instant_of time_text
with_date (pos n) h = simp (lt-ltb n years_end (omega (arith, h)))
with_date (negsuc n) h =
    either (leb (suc n) unix_epoch)
    (λ e. simp e)
    (λ e. absurd (omega (arith, simp e at h)))

with_none : (z : ℤ) → unix_epoch + years_end ≤ instant_of z → signed_text z ≡ time_text z
unfolding instant_of time_text
with_none (pos n) h = simp (le-ltb n years_end (omega (arith, h)))
with_none (negsuc n) h =
    either (leb (suc n) unix_epoch)
    (λ e. absurd (omega (arith, simp e at h)))
    (λ e. simp e)

module _ (z : ℤ) (f : SFits w64 z) (i : ℕ) (q : i ≡ instant_of (to_z w64 (of_z w64 z))) where
  is : i ≡ instant_of z
  is = q ∙ ap instant_of (to_z-of_z w64 z f)

  pub dated : i < unix_epoch + years_end → iso_text (date_of i) ≡ time_text z
  dated h = rw is (with_date z (rw is at h))

  pub undated : unix_epoch + years_end ≤ i → signed_text (to_z w64 (of_z w64 z)) ≡ time_text z
  undated h = ap signed_text (to_z-of_z w64 z f) ∙ with_none z (rw is at h)
