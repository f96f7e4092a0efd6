-- The header that enough bytes begin with. Assumes nothing.
use Prim.Native.Nat.{ℕ, ◌≤◌}
use borrow.Author.Tests.{le-leb, eq-eqb, ne_eqb}
use lib.ListN.{length, get_or}
use mathlib.Core.Bool.{and-false}
use mathlib.Core.List.{List}
use mathlib.Core.Path.{◌≡◌}
use native.Mathlib.Omega.{arith}
use Rattle.zniffer_starts.specs.Header.{command_head, frame_head, head_of}

module _ (s : List ℕ) where
  pub a_command : 3 ≤ length s → get_or s 0 0 ≡ 0x23 → command_head (get_or s 1 0) (get_or s 2 0) ≡ head_of s
  unfolding head_of
  a_command h e = rw (le-leb 3 (length s) h, eq-eqb (get_or s 0 0) 0x23 e)

  pub a_frame : 10 ≤ length s → get_or s 0 0 ≡ 0x21
      → frame_head (get_or s 1 0) (get_or s 2 0) (get_or s 3 0) (get_or s 4 0) (get_or s 5 0) (get_or s 6 0) (get_or s 7 0) (get_or s 8 0) (get_or s 9 0) ≡ head_of s
  unfolding head_of
  a_frame h e = simp (ne_eqb (get_or s 0 0) 0x23 (λ f. omega (arith, e, f)), and-false, le-leb 10 (length s) h, eq-eqb (get_or s 0 0) 0x21 e)
