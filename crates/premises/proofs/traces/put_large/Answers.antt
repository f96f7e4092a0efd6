-- `premises::traces::put_large` meets its contract: part after part. Assumes nothing.
use Prim.Native.Nat.{ℕ}
use mathlib.Core.Path.{ap}
use Rattle.text.proofs.Puts.{joined, renamed}
use Rattle.plain_examples.specs.Traces.{blank, large}
use Rattle.premises.proofs.traces.put_large.Goals as goal

pub returns : goal.returns
unfolding large
returns c =
    joined c.put_header.ensures
    (joined (renamed (ap (λ (t : ℕ). blank t 1048576) c.second.ensures) c.put_blank.ensures)
    (joined (renamed (ap (λ (t : ℕ). blank t 1048576) c.second-2.ensures) c.put_blank-2.ensures)
    (renamed (ap (λ (t : ℕ). blank t 1048576) c.second-3.ensures) c.put_blank-3.ensures)))
