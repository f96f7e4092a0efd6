-- Lines by their text and their facts. Assumes nothing.
use Prim.Native.Nat.{ℕ, ◌+◌, ◌≤◌, ◌<◌}
use borrow.Author.Tests.{le-ltb}
use lib.ListN.{length, get_or, drop, drop_of_length-le}
use mathlib.Core.List.{List, [], ◌++◌}
use mathlib.Core.Path.{◌≡◌, refl, ap}
use native.Mathlib.Omega.{arith}
use Rattle.text.proofs.Puts.{next_byte}
use Rattle.text.specs.Texts.{decimal_text, signed_text}
use Rattle.names.specs.Names.{years_end, time_text}
use Rattle.zlf.specs.declared.facts.Facts.{Facts}
use Rattle.zlf.specs.Facts.{moment_text, shown, facts_after, line_text}

module _ (l : List ℕ) (f : Facts) (i : ℕ) where
  -- the line from a byte on shows the byte, and the rest with the facts that it leaves
  pub next_shown : i < length l → line_text (drop i l) f ≡ shown (get_or l i 0) f.first ++ line_text (drop (i + 1) l) (facts_after f (get_or l i 0))
  unfolding line_text
  next_shown h = ap (λ (t : List ℕ). line_text t f) (next_byte l i h)

  pub none_shown : length l ≤ i → line_text (drop i l) f ≡ []
  unfolding line_text
  none_shown h = ap (λ (t : List ℕ). line_text t f) (drop_of_length-le l {i = i} h)

-- a time past the years of four digits is its number
pub late_moment : (n : ℕ) → 9223372036854775808 ≤ n → decimal_text n ≡ moment_text n
unfolding time_text signed_text
late_moment n h =
    let e : years_end ≡ 253402300800000 = refl in
    simp (le-ltb n years_end (omega arith))
