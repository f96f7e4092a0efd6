-- After every result but IncompleteFrame the parser is fresh. Assumes nothing.
use Prim.Native.Nat.{ℕ, ◌+◌}
use lib.Dec.{eqb}
use mathlib.Core.Bool.{true, false}
use mathlib.Core.Path.{◌≡◌, refl}
use Rattle.zniffer_numbers.specs.declared.Core.{Core}
use Rattle.zniffer_numbers.specs.declared.CoreStep.{CoreStep}
use Rattle.zniffer_tests.specs.Tests.{command_ok, type_ok, region_ok, reachable_of}
use Rattle.zniffer_numbers.specs.Numbers.{fresh_core, goes_on}
use Rattle.zniffer_states.specs.Step.{going, take_of}
use Rattle.zniffer_core.specs.Run.{core_step_of}
use Rattle.zniffer_states.proofs.Laws.{both, by_state}

abbrev Settles : CoreStep → Type 0
Settles s = goes_on s.result ≡ false → s.core ≡ fresh_core

more : (c : Core) → Settles (going c)
more c e = let z : true ≡ false = e in cc

take_settles : (c : Core) (b : ℕ) → Settles (take_of c b)
take_settles c b =
    by_state Settles c b
    (λ _. both Settles (eqb b 0x23) (more _) (both Settles (eqb b 0x21) (more _) (more _)))
    (λ _. both Settles (command_ok b) (more _) (λ _. refl))
    (λ _. both Settles (eqb b 0) (λ _. refl) (more _))
    (λ _. both Settles (eqb (c.count + 1) c.length) (λ _. refl) (more _))
    (λ _. both Settles (type_ok b) (more _) (λ _. refl))
    (λ _. both Settles c.timestamp_state (more _) (more _))
    (λ _. more _)
    (λ _. both Settles (region_ok b) (more _) (λ _. refl))
    (λ _. more _)
    (λ _. both Settles (eqb b 0x21) (more _) (λ _. refl))
    (λ _. both Settles (eqb b 0x03) (more _) (λ _. refl))
    (λ _. refl)

pub fresh_after : (c : Core) (b : ℕ) → goes_on (core_step_of c b).result ≡ false → (core_step_of c b).core ≡ fresh_core
unfolding core_step_of
fresh_after c b = both Settles (reachable_of c) (take_settles c b) (λ _. refl)
