-- `premises::traces::put_tail` meets its contract: part after part. Assumes nothing.
use Prim.Native.Nat.{ℕ}
use mathlib.Core.Path.{ap}
use Rattle.text.proofs.Puts.{joined, renamed}
use Rattle.plain_examples.specs.Traces.{blank, tail}
use Rattle.premises.proofs.traces.put_tail.Goals as goal

pub returns : goal.returns
unfolding tail
returns c =
    joined c.put_header.ensures
    (joined (renamed (ap (λ (t : ℕ). blank t 1) c.second.ensures) c.put_blank.ensures)
    (joined (renamed (ap (λ (t : ℕ). blank t 1) c.second-2.ensures) c.put_blank-2.ensures)
    (joined (renamed (ap (λ (t : ℕ). blank t 1) c.second-3.ensures) c.put_blank-3.ensures)
    c.put_byte.ensures)))
