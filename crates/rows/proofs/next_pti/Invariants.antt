-- `rows::next_pti` meets its contract. The invariant: the frames from the place reached are those from the place given. The measure is what
-- is left of the payload. Assumes nothing.
use Prim.Native.Nat.{◌-◌}
use lib.ListN.{length}
use mathlib.Core.Path.{◌≡◌}
use Rattle.rows.specs.Frames.{pti_from}
use Rattle.rows.proofs.next_pti.Given as goal

abbrev pub invariant-loop-body : goal.invariant-loop-body
invariant-loop-body l = pti_from l.payload l.from ≡ pti_from l.payload l.at

abbrev pub decreases-loop-body : goal.decreases-loop-body
decreases-loop-body l = length l.payload - l.from
