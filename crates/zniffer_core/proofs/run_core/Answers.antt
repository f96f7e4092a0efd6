-- `run_core` meets its contract. Assumes nothing.
use Rattle.std.proofs.Common.{◌≡◌, ◌<◌, length, sym, ◌∙◌, rules}
use Rattle.zniffer_core.proofs.RunLaws.{run_none, run_refused}
use Rattle.zniffer_core.proofs.run_core.Goals as goal

pub returns-then-is_empty : goal.returns-then-is_empty
returns-then-is_empty c = let none : length c.args.s.now ≡ 0 = search rules in sym (run_none c.args.s.now c.args.c none)

pub returns-else-is_empty : goal.returns-else-is_empty
returns-else-is_empty c =
    let some : 0 < length c.args.s.now = search rules in
    rw c.fresh_core.ensures (sym (run_refused c.args.s.now c.args.c (sym c.reachable.ensures ∙ c.if-reachable.false) some))
