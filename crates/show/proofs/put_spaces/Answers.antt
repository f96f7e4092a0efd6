-- `show::put_spaces` meets its contract: at each turn the spaces that come on are left to be put. Assumes nothing.
use Prim.Native.Nat.{ℕ, suc, ◌+◌, ◌-◌}
use lib.ListN.{replicate}
use mathlib.Core.Path.{◌≡◌, ap}
use native.Mathlib.Omega.{arith}
use Rattle.text.specs.Texts.{space}
use Rattle.text.proofs.Puts.{all_left, less_left, none_left}
use Rattle.show.proofs.put_spaces.Goals as goal

pub loop-init : goal.loop-init
loop-init c = let all : c.args.n - 0 ≡ c.args.n = omega arith in rw all (all_left _ _)

pub loop-preserved : goal.loop-preserved
loop-preserved c =
    let n = c.args.n in let i = c.loop.counter in
    let one_less : n - i ≡ suc (n - (i + 1)) = omega arith in
    less_left c.loop.invariant (ap (λ (k : ℕ). replicate k space) one_less) c.put_byte.ensures

pub returns : goal.returns
returns c =
    let none : c.args.n - c.loop.counter ≡ 0 = omega arith in
    none_left c.loop.invariant (ap (λ (k : ℕ). replicate k space) none)
