-- `lines::put_fields` meets its contract. Assumes nothing.
use borrow.Author.Rules.{rules}
use lib.ListN.{drop_of_length-le}
use mathlib.Core.List.{List, map}
use mathlib.Core.Path.{ap}
use Prim.Native.Nat.{ℕ}
use Rattle.text.proofs.Puts.{less_left, none_left}
use Rattle.text.specs.Texts.{decimal_text}
use Rattle.lines.specs.Lines.{spaced}
use Rattle.lines.proofs.Lines.{next_field}
use Rattle.lines.proofs.put_fields.Goals as goal

pub loop-n-preserved : goal.loop-n-preserved
loop-n-preserved c = less_left c.loop-n.invariant (next_field c.args.numbers.now c.loop-n.n-index (search rules)) c.put_field.ensures.puts

pub returns : goal.returns
unfolding spaced
returns c =
    record {
      puts = none_left c.loop-n.invariant
          (ap (λ (l : List ℕ). spaced (map decimal_text l)) (drop_of_length-le c.args.numbers.now {i = c.loop-n.n-index} (search rules)));
    }
