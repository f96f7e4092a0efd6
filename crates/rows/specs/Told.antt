-- What asking for the next frame gives, told in numbers. That it determines the answer is `only_next` of proofs/Only.antt.
use Rattle.std.specs.Prelude.{ℕ, Option, None, Some}
use Rattle.pti.specs.Told.{ParsedTold, told_frame, no_frame}
use Rattle.rows.specs.declared.NextFrame.{NextFrame}

-- the frame, as that of a body is told, and the place after the bytes that hold it; what is not said is 0
pub record NextTold : Type 0 where
  pub frame : ParsedTold
  pub next : ℕ

abbrev pub told_next : Option NextFrame → NextTold
told_next (Some x) = record { frame = told_frame x.frame; next = x.next }
told_next None = record { frame = no_frame; next = 0 }
