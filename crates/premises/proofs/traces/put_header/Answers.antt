-- `premises::traces::put_header` meets its contract: the version, and zeros. Assumes nothing.
use mathlib.Core.Path.{◌∙◌}
use Rattle.text.proofs.Puts.{joined, renamed}
use Rattle.plain_examples.specs.Traces.{header}
use Rattle.premises.proofs.Turns.{low_bytes}
use Rattle.premises.proofs.traces.put_header.Goals as goal

pub returns : goal.returns
unfolding header
returns c = joined (renamed (c.to_le_bytes.ensures ∙ low_bytes 4 104) c.put_text.ensures) c.put_zeros.ensures
