-- `rows::next_zniffer` meets its contract. The invariant: the frames from the place reached are those from the place given. The measure is
-- what is left of the payload. Assumes nothing.
use Prim.Native.Nat.{◌-◌}
use lib.ListN.{length}
use mathlib.Core.Path.{◌≡◌}
use Rattle.rows.specs.Frames.{zniffer_from}
use Rattle.rows.proofs.next_zniffer.Given as goal

abbrev pub invariant-loop-from : goal.invariant-loop-from
invariant-loop-from l = zniffer_from l.outgoing l.payload l.from ≡ zniffer_from l.outgoing l.payload l.at

abbrev pub decreases-loop-from : goal.decreases-loop-from
decreases-loop-from l = length l.payload - l.from
