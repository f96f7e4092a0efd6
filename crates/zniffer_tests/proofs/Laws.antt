-- What the test on a parser's numbers says where its data starts. Assumes nothing.
use Prim.Native.Nat.{◌≤◌, ◌<◌}
use lib.Dec.{eqb}
use borrow.Author.Tests.{eqb-true, eqb-false}
use native.Mathlib.Omega.{arith}
use mathlib.Core.Bool.{Bool, true, false, ◌&&◌, or-false}
use mathlib.Core.Path.{◌≡◌, refl}
use Rattle.zniffer_numbers.specs.declared.Core.{Core}
use Rattle.zniffer_tests.specs.Tests.{unfilled, framed, reachable_of}

at_data : (c : Core) (nine : Bool) → eqb c.state 9 ≡ nine → 9 ≤ c.state → c.state < 11 → (eqb c.command_id 0 && (framed c && unfilled c)) ≡ reachable_of c
at_data c true e low high = rw (eqb-true c.state 9 e) (simp or-false)
at_data c false e low high = let s : c.state ≡ 10 = omega (arith, eqb-false c.state 9 e) in rw s (simp or-false)

pub data_test : (c : Core) → 9 ≤ c.state → c.state < 11 → (eqb c.command_id 0 && (framed c && unfilled c)) ≡ reachable_of c
data_test c low high = at_data c (eqb c.state 9) refl low high
