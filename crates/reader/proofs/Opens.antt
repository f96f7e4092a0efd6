-- Each way out of opening in sequence, from the facts that lead there. Assumes nothing.
use Prim.Native.Nat.{ℕ, ◌≤◌, ◌<◌}
use lib.ListN.{length}
use mathlib.Core.Bool.{true, false}
use mathlib.Core.List.{List}
use mathlib.Core.Path.{◌≡◌}
use borrow.Author.Tests.{lt-ltb, le-ltb, eq-eqb, ne_eqb}
use Rattle.layout.specs.Layout.{header_size, trace_limit}
use Rattle.reader.specs.Opening.{sum_right, version_of, opening_told, opened}

module _ (s : List ℕ) (expected : ℕ) where
  pub too_long : trace_limit < length s → opening_told 1 0 0 0 ≡ opened s expected
  unfolding opened
  too_long h = simp (lt-ltb trace_limit (length s) h)

  module _ (short : length s ≤ trace_limit) where
    pub too_short : length s < header_size → opening_told 2 0 0 0 ≡ opened s expected
    unfolding opened
    too_short h = simp (le-ltb trace_limit (length s) short, lt-ltb (length s) header_size h)

    module _ (headed : header_size ≤ length s) where
      pub wrong_sum_lem : sum_right s ≡ false → opening_told 3 0 0 0 ≡ opened s expected
      unfolding opened
      wrong_sum_lem h = simp (le-ltb trace_limit (length s) short, le-ltb (length s) header_size headed, h)

      module _ (summed : sum_right s ≡ true) where
        pub wrong_version : (version_of s ≡ expected → ⊥) → opening_told 4 (version_of s) 0 0 ≡ opened s expected
        unfolding opened
        wrong_version h =
            simp (le-ltb trace_limit (length s) short, le-ltb (length s) header_size headed, summed, ne_eqb (version_of s) expected h)

        pub right : version_of s ≡ expected → opening_told 0 (version_of s) header_size 0 ≡ opened s expected
        unfolding opened
        right h =
            simp (le-ltb trace_limit (length s) short, le-ltb (length s) header_size headed, summed, eq-eqb (version_of s) expected h)
