-- `premises::traces::put_head` meets its contract: ticks, properties, length. Assumes nothing.
use mathlib.Core.Path.{◌∙◌}
use Rattle.text.proofs.Puts.{joined, renamed}
use Rattle.premises.proofs.Turns.{low_bytes}
use Rattle.premises.proofs.traces.put_head.Goals as goal

pub returns : goal.returns
returns c =
    joined (renamed (c.to_le_bytes.ensures ∙ low_bytes 8 _) c.put_text.ensures)
    (joined c.put_byte.ensures
    (renamed (c.to_le_bytes-2.ensures ∙ low_bytes 4 _) c.put_text-2.ensures))
