-- What is told of the next frame determines it. Assumes nothing.
use mathlib.Core.Bool.{cond}
use mathlib.Core.Path.{◌≡◌, refl}
use Rattle.std.specs.Prelude.{Option, None, Some}
use Rattle.choice.proofs.Only.{only}
use Rattle.pti.proofs.Only.{back_frame}
use Rattle.rows.specs.Told.{NextTold, told_next}
use Rattle.rows.specs.declared.NextFrame.{NextFrame}

back_next : NextTold → Option NextFrame
back_next t = cond t.frame.is_frame (Some (record { frame = back_frame t.frame; next = t.next })) None

same_next : (r : Option NextFrame) → back_next (told_next r) ≡ r
unfolding back_next back_frame
same_next (Some x) = refl
same_next None = refl

pub only_next : (a b : Option NextFrame) → told_next a ≡ told_next b → a ≡ b
only_next = only told_next back_next same_next
