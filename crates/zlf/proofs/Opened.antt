-- A trace that opens has a header, and is within the limit. Assumes nothing.
use Prim.Native.Nat.{ℕ, ◌≤◌}
use borrow.Author.Tests.{ltb-false}
use lib.Dec.{ltb}
use lib.ListN.{length}
use mathlib.Core.Bool.{Bool, true, false, cond}
use mathlib.Core.List.{List}
use mathlib.Core.Path.{◌≡◌, refl, sym, ap}
use native.Mathlib.Omega.{arith}
use Rattle.layout.specs.Layout.{header_size, trace_limit}
use Rattle.seam.specs.Opening.{OpeningTold, opening_told, opening_of}

opened_by : (n : ℕ) (t : OpeningTold) (a b : Bool) → ltb trace_limit n ≡ a → ltb n header_size ≡ b
    → (cond a (opening_told 1 0) (cond b (opening_told 2 0) t)).refusal ≡ 0 → (header_size ≤ n) × (n ≤ trace_limit)
opened_by n t true b e f q = absurd (omega arith)
opened_by n t false true e f q = absurd (omega arith)
opened_by n t false false e f q = (ltb-false n header_size f, ltb-false trace_limit n e)

pub opened : (s : List ℕ) (expected version : ℕ) → opening_told 0 version ≡ opening_of s expected → (header_size ≤ length s) × (length s ≤ trace_limit)
unfolding opening_of
opened s expected version q =
    opened_by (length s) _ (ltb trace_limit (length s)) (ltb (length s) header_size) refl refl (sym (ap (λ (t : OpeningTold). t.refusal) q))
