-- `text::Out::put_byte` meets its contract. Assumes nothing.
use mathlib.Core.Path.{refl}
use Rattle.text.proofs.Puts.{byte_in, text_out}
use Rattle.text.proofs.Out.put_byte.Goals as goal

pub returns-then-self : goal.returns-then-self
returns-then-self c = record { put = byte_in _ _ _ c.if-self.true; same = refl }

pub returns-else-self : goal.returns-else-self
returns-else-self c = record { put = text_out _ _ c.if-self.false _; same = refl }
