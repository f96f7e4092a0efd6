-- What is told of a result determines it. Assumes nothing.
use mathlib.Core.Path.{◌≡◌, refl}
use native.Mathlib.Omega.{arith}
use Rattle.zniffer_numbers.specs.declared.ParserResult.{ParserResult}
use Rattle.zniffer_numbers.specs.declared.ParserResult.TheVariants.{ValidCommand, ValidFrame, IncompleteFrame, InvalidFrame}
use Rattle.zniffer_numbers.specs.Told.{Told, told}

-- two cases that have different numbers
apart : {X : Type 0} (a b : Told) → a ≡ b → (a.which ≡ b.which → ⊥) → X
apart a b e no' = absurd (no' (λ i. (e i).which))

pub told_only : (a b : ParserResult) → told a ≡ told b → a ≡ b
told_only IncompleteFrame IncompleteFrame e = refl
told_only InvalidFrame InvalidFrame e = refl
told_only (ValidCommand i n) (ValidCommand j m) e = λ x. ValidCommand (e x).id (e x).length
told_only (ValidFrame w k v g r n) (ValidFrame w' k' v' g' r' n') e = λ x. ValidFrame (e x).timestamp (e x).channel (e x).speed (e x).region (e x).rssi (e x).length
told_only IncompleteFrame InvalidFrame e = apart _ _ e (λ z. omega (arith, z))
told_only IncompleteFrame (ValidCommand j m) e = apart _ _ e (λ z. omega (arith, z))
told_only IncompleteFrame (ValidFrame w k v g r n) e = apart _ _ e (λ z. omega (arith, z))
told_only InvalidFrame IncompleteFrame e = apart _ _ e (λ z. omega (arith, z))
told_only InvalidFrame (ValidCommand j m) e = apart _ _ e (λ z. omega (arith, z))
told_only InvalidFrame (ValidFrame w k v g r n) e = apart _ _ e (λ z. omega (arith, z))
told_only (ValidCommand i n) IncompleteFrame e = apart _ _ e (λ z. omega (arith, z))
told_only (ValidCommand i n) InvalidFrame e = apart _ _ e (λ z. omega (arith, z))
told_only (ValidCommand i n) (ValidFrame w k v g r m) e = apart _ _ e (λ z. omega (arith, z))
told_only (ValidFrame w k v g r n) IncompleteFrame e = apart _ _ e (λ z. omega (arith, z))
told_only (ValidFrame w k v g r n) InvalidFrame e = apart _ _ e (λ z. omega (arith, z))
told_only (ValidFrame w k v g r n) (ValidCommand j m) e = apart _ _ e (λ z. omega (arith, z))
