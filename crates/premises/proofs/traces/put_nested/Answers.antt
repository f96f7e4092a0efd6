-- `premises::traces::put_nested` meets its contract: part after part. Assumes nothing.
use Prim.Native.Nat.{ℕ}
use mathlib.Core.Path.{ap}
use Rattle.text.proofs.Puts.{joined, renamed}
use Rattle.plain_examples.specs.Traces.{blank, head, nested}
use Rattle.premises.proofs.traces.put_nested.Goals as goal

pub returns : goal.returns
unfolding nested
returns c =
    joined c.put_header.ensures
    (joined (renamed (ap (λ (t : ℕ). head t 80016) c.second.ensures) c.put_head.ensures)
    (joined c.put_zeros.ensures
    (renamed (ap (λ (t : ℕ). blank t 40001) c.second-2.ensures) c.put_blank.ensures)))
