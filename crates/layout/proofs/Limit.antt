-- What `Trace::readable` says of a trace that it turns away. Assumes nothing.
use Prim.Native.Nat.{ℕ, ◌≤◌, ◌<◌}
use Rattle.std.proofs.Math.Nat.{lt_of_not-le}
use mathlib.Core.Bool.{true, false, false≢true}
use mathlib.Core.Path.{◌≡◌}
use Rattle.layout.specs.Layout.{trace_limit}

pub over : {n : ℕ} → (n ≤ trace_limit → false ≡ true) → trace_limit < n
over h = lt_of_not-le (λ e. false≢true (h e))
