-- `run_reached` meets its contract. The loop's invariant: the parser passes the test, and what is left of the bytes, from it, ends as all of them from the first. The measure is what is left of the length.
-- Bytes that are passed over before a byte change no end. Assumes nothing.
use Prim.Native.Nat.{◌-◌, ◌≤◌}
use lib.ListN.{length, drop}
use mathlib.Core.Bool.{true}
use mathlib.Core.Path.{◌≡◌}
use Rattle.zniffer_tests.specs.Tests.{reachable_of}
use Rattle.zniffer_core.specs.Run.{core_run_from}
use Rattle.zniffer_core.proofs.run_reached.Given as goal

abbrev pub invariant-loop-value : goal.invariant-loop-value
invariant-loop-value l = (l.used ≤ length l.s) × (reachable_of l.q ≡ true) × (core_run_from l.used (drop l.used l.s) l.q ≡ core_run_from 0 l.s l.initial.q)

abbrev pub decreases-loop-value : goal.decreases-loop-value
decreases-loop-value l = length l.s - l.used
