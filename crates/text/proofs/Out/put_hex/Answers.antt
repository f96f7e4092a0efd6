-- `text::Out::put_hex` meets its contract: at each turn the digits of the bytes from the one that comes on are left to be put. Assumes nothing.
use borrow.Author.Rules.{rules}
use Prim.Native.Nat.{ℕ}
use mathlib.Core.List.{List, [], ◌∷◌}
use mathlib.Core.Path.{ap}
use lib.ListN.{drop_of_length-le}
use Rattle.text.proofs.Puts.{joined, renamed, less_left, none_left, next_hex}
use Rattle.text.specs.Texts.{hex_text}
use Rattle.text.proofs.Out.put_hex.Goals as goal

abbrev one : ℕ → List ℕ
one b = b ∷ []

pub loop-b-preserved : goal.loop-b-preserved
loop-b-preserved c =
    less_left
    c.loop-b.invariant
    (next_hex c.args.bytes.now c.loop-b.b-index (search rules))
    (joined (renamed (ap one c.digit.ensures) c.put_byte.ensures) (renamed (ap one c.digit-in-loop-b.ensures) c.put_byte-in-loop-b.ensures))

pub returns : goal.returns
unfolding hex_text
returns c = none_left c.loop-b.invariant (ap hex_text (drop_of_length-le c.args.bytes.now {i = c.loop-b.b-index} (search rules)))
