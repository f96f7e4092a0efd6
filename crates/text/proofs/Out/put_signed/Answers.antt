-- `text::Out::put_signed` meets its contract. Assumes nothing.
use Rattle.text.specs.Texts.{decimal_text}
use mathlib.Core.List.{[], ◌∷◌, ◌++◌}
use Prim.Native.Nat.{ℕ}
use mathlib.Core.Path.{ap, ◌∙◌}
use Rattle.text.proofs.Puts.{joined, renamed}
use Rattle.text.proofs.Signs.{below_zero, not_below_zero}
use Rattle.text.proofs.Out.put_signed.Goals as goal

pub returns-then-z-lt0 : goal.returns-then-z-lt0
returns-then-z-lt0 c =
    renamed (ap (λ (n : ℕ). (0x2D ∷ []) ++ decimal_text n) c.magnitude.ensures ∙ below_zero _ c.ranges.z c.if-z-lt0.true)
    (joined c.put_byte.ensures c.put_decimal.ensures)

pub returns-else-z-lt0 : goal.returns-else-z-lt0
returns-else-z-lt0 c =
    renamed (ap decimal_text c.magnitude-else-z-lt0.ensures ∙ not_below_zero _ c.ranges.z c.if-z-lt0.false)
    c.put_decimal-else-z-lt0.ensures
