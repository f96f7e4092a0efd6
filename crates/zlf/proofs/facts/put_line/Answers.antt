-- `zlf::facts::put_line` meets its contract: at each turn the line from the byte that comes on is left to be put. Assumes nothing.
use borrow.Author.Rules.{rules}
use Prim.Native.Nat.{◌+◌}
use mathlib.Core.Path.{ap, sym, ◌∙◌}
use lib.ListN.{get_or, drop}
use mathlib.Core.List.{◌++◌}
use Rattle.text.proofs.Puts.{less_left, none_left}
use Rattle.zlf.specs.declared.facts.Facts.{Facts}
use Rattle.zlf.specs.Facts.{shown, line_text}
use Rattle.zlf.proofs.Lines.{next_shown, none_shown}
use Rattle.zlf.proofs.facts.put_line.Goals as goal

pub loop-b-preserved : goal.loop-b-preserved
loop-b-preserved c =
    let text = c.args.text.now in let l = c.loop-b in let b = get_or text l.b-index 0 in
    let rest = ap (λ (f : Facts). shown b l.left.first ++ line_text (drop (l.b-index + 1) text) f) (sym c.after-left.ensures) in
    less_left l.invariant (next_shown text l.left l.b-index (search rules) ∙ rest) c.put_shown.ensures

pub returns : goal.returns
returns c = none_left c.loop-b.invariant (none_shown c.args.text.now c.loop-b.left c.loop-b.b-index (search rules))
