-- `beam::beam_count` meets its contract. The invariant: what is counted so far and the repeats in the rest come to the whole count. The
-- measure is the rest's length. Assumes nothing.
use Prim.Native.Nat.{◌≤◌}
use lib.ListN.{length}
use mathlib.Core.Path.{◌≡◌}
use Rattle.beam.specs.Beam.{beam_count}
use Rattle.beam.proofs.Beats.{total}
use Rattle.beam.proofs.beam_count.Given as goal

abbrev pub invariant-loop-rest : goal.invariant-loop-rest
invariant-loop-rest l = (l.count ≤ 65535) × (total l.pattern l.frame_length l.count l.rest ≡ beam_count l.frame_length l.data)

abbrev pub decreases-loop-rest : goal.decreases-loop-rest
decreases-loop-rest l = length l.rest
