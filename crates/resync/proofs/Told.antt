-- What is told of an offset, within the limit and over it. Assumes nothing.
use Prim.Native.Nat.{ℕ, ◌≤◌, ◌<◌}
use borrow.Author.Tests.{lt-ltb, le-ltb}
use lib.ListN.{length}
use mathlib.Core.Bool.{Bool, false}
use mathlib.Core.List.{List}
use mathlib.Core.Path.{◌≡◌, ap}
use Rattle.layout.specs.Layout.{trace_limit}
use Rattle.record.specs.Record.{Limits, next_at}
use Rattle.resync.specs.Boundary.{boundary, boundary_told, boundary_at}

module _ (limits : Limits) (kinds s : List ℕ) (at : ℕ) where
  pub too_long : trace_limit < length s → boundary_told 1 false ≡ boundary_at limits kinds s at
  unfolding boundary_at
  too_long h = simp (lt-ltb trace_limit (length s) h)

  pub judged : length s ≤ trace_limit → (b : Bool) → b ≡ boundary (next_at limits kinds s) (length s) at → boundary_told 0 b ≡ boundary_at limits kinds s at
  unfolding boundary_at
  judged fits b e = simp (le-ltb trace_limit (length s) fits) (ap (boundary_told 0) e)
