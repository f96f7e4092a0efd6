-- What is told of a step of splitting determines it. Assumes nothing.
use mathlib.Core.Bool.{cond}
use mathlib.Core.Path.{◌≡◌, refl}
use Rattle.std.specs.Prelude.{Option, None, Some}
use Rattle.choice.proofs.Only.{only}
use Rattle.bracket.specs.Told.{SplitTold, told_split}
use Rattle.bracket.specs.declared.Body.{Body}

back_split : SplitTold → Option Body
back_split t = cond t.is_body (Some (record { at = t.at; len = t.len; next = t.next })) None

same_split : (r : Option Body) → back_split (told_split r) ≡ r
unfolding back_split
same_split (Some b) = refl
same_split None = refl

pub only_split : (a b : Option Body) → told_split a ≡ told_split b → a ≡ b
only_split = only told_split back_split same_split
