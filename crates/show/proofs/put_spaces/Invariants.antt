-- `show::put_spaces` meets its contract: at each turn the spaces that come on are left to be put. Assumes nothing.
use Prim.Native.Nat.{◌-◌}
use lib.ListN.{replicate}
use Rattle.text.specs.Texts.{space}
use Rattle.text.proofs.Puts.{Left}
use Rattle.show.proofs.put_spaces.Given as goal

abbrev pub invariant-loop : goal.invariant-loop
invariant-loop l = Left (replicate l.n space) l.initial.out (replicate (l.n - l.counter) space) l.out
