-- `skip_ahead` meets its contract: in a payload, and where a parser is idle, what is passed over changes no end. Assumes nothing.
use Prim.Native.Nat.{◌+◌, ◌-◌, ◌<◌, ◌≤◌}
use lib.ListN.{length, drop, length-drop}
use lib.Seq.{drop-drop}
use mathlib.Core.Path.{ap, ◌∙◌}
use native.Mathlib.Omega.{arith}
use Rattle.zniffer_core.specs.Run.{core_run_from}
use Rattle.zniffer_states.proofs.Laws.{room}
use Rattle.zniffer_core.proofs.Skips.{later, skipped, still, idle_within, idle_ahead}
use borrow.Author.Rules.{rules}
use Rattle.zniffer_core.proofs.skip_ahead.Goals as goal

pub overflow_add-result : goal.overflow_add-result
overflow_add-result c = omega (arith, idle_within c.args.s.now c.args.at c.idle_bytes.result c.requires.1 c.idle_bytes.ensures)

pub overflow_sub-c : goal.overflow_sub-c
overflow_sub-c c = omega (arith, room c.args.c c.requires.0 c.in-3.is)

pub overflow_sub-c-in-3 : goal.overflow_sub-c-in-3
overflow_sub-c-in-3 c = omega (arith, room c.args.c c.requires.0 c.in-3.is)

pub returns-in-0 : goal.returns-in-0
returns-in-0 c =
    let s = c.args.s.now in let at = c.args.at in let n = c.idle_bytes.result in let is = c.idle_bytes.ensures in
    (idle_within s at n c.requires.1 is, search rules, c.requires.0, idle_ahead s at n c.requires.1 is c.args.c c.requires.0 c.in-0.is)

pub returns-in-3 : goal.returns-in-3
returns-in-3 c =
    let q = c.args.c in let s = c.args.s.now in let at = c.args.at in let by = c.min-by.result in
    let lt : q.count + by < q.length = omega (arith, room q c.requires.0 c.in-3.is, c.min-by.ensures, c.from.ensures) in
    let few : by ≤ length s - at = omega (arith, c.min-by.ensures) in
    let room : by ≤ length (drop at s) = rw (length-drop at s) few in
    (omega (arith, few, c.requires), omega arith, still by q c.requires.0 c.in-3.is lt, skipped by q c.requires.0 c.in-3.is lt at (drop at s) room ∙ ap (λ l. core_run_from (at + by) l (later q by)) (drop-drop by at s))
