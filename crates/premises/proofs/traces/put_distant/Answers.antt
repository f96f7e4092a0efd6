-- `premises::traces::put_distant` meets its contract: part after part. Assumes nothing.
use Prim.Native.Nat.{ℕ}
use mathlib.Core.Path.{ap}
use Rattle.text.proofs.Puts.{joined, renamed}
use Rattle.plain_examples.specs.Traces.{blank, distant}
use Rattle.premises.proofs.traces.put_distant.Goals as goal

pub returns : goal.returns
unfolding distant
returns c =
    joined c.put_header.ensures
    (joined c.put_zeros.ensures
    (joined (renamed (ap (λ (t : ℕ). blank t 1) c.second.ensures) c.put_blank.ensures)
    (renamed (ap (λ (t : ℕ). blank t 1) c.second-2.ensures) c.put_blank-2.ensures)))
