-- `resync::begins_run` meets its contract. The loop's invariant: `counter` valid records lie from `offset` to `at`. Assumes nothing.
use Prim.Native.Nat.{◌≤◌}
use Rattle.std.specs.Prelude.{Some}
use mathlib.Core.Path.{◌≡◌}
use Rattle.resync.specs.Boundary.{after}
use Rattle.record.specs.Record.{plausible, next_at}
use Rattle.resync.proofs.begins_run.Given as goal

abbrev pub invariant-loop : goal.invariant-loop
invariant-loop l = (1 ≤ l.counter) × (after (next_at plausible l.trace.kinds.now l.trace.bytes.now) l.counter l.offset ≡ Some l.at)
