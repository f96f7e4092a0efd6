-- Over a run of bytes the numbers alone go as the parser with its payload does. So whoever needs no payload runs the numbers. Assumes nothing.
use Prim.Native.Nat.{ℕ, ◌+◌}
use mathlib.Core.Bool.{Bool, true, false, cond}
use mathlib.Core.List.{List, [], ◌∷◌}
use mathlib.Core.Path.{◌≡◌, refl}
use Rattle.zniffer_numbers.specs.Numbers.{goes_on}
use Rattle.zniffer_core.specs.declared.CoreRan.{CoreRan}
use Rattle.zniffer_core.specs.Run.{core_run_from}
use Rattle.zniffer.specs.declared.parser.Parser.{Parser}
use Rattle.zniffer.specs.declared.parser.Ran.{Ran}
use Rattle.zniffer.specs.Parse.{core_of, step_of, run_from}
use Rattle.zniffer.proofs.Agree.{step_result, step_core}
use Rattle.zniffer_laws.specs.Statements.{numbers}

both : (t : Bool) {a b : CoreRan} (x y : Ran) → a ≡ numbers x → b ≡ numbers y → cond t a b ≡ numbers (cond t x y)
both true x y e f = e
both false x y e f = f

pub run_agrees : (s : List ℕ) (k : ℕ) (p : Parser) → core_run_from k s (core_of p) ≡ numbers (run_from k s p)
unfolding run_from core_run_from
run_agrees [] k p = refl
run_agrees (b ∷ bs) k p =
    rw (← step_result p b, ← step_core p b) (both (goes_on (step_of p b).answer.result) (run_from (k + 1) bs (step_of p b).parser)
    (record { parser = (step_of p b).parser; out = record { answer = (step_of p b).answer; used = k + 1 } }) (run_agrees bs (k + 1) (step_of p b).parser) refl)
