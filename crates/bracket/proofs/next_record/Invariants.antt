-- `bracket::next_record` meets its contract. The invariant: the next body from the place reached is the next body from the place given. The
-- measure is what is left of the payload. Assumes nothing.
use Prim.Native.Nat.{◌-◌}
use lib.ListN.{length}
use mathlib.Core.Path.{◌≡◌}
use Rattle.bracket.specs.Bracket.{next_record}
use Rattle.bracket.proofs.next_record.Given as goal

abbrev pub invariant-loop-len : goal.invariant-loop-len
invariant-loop-len l = next_record l.payload l.from ≡ next_record l.payload l.at

abbrev pub decreases-loop-len : goal.decreases-loop-len
decreases-loop-len l = length l.payload - l.from
