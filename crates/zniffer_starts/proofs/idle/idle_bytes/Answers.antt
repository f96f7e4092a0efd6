-- `idle::idle_bytes` meets its contract. Assumes nothing.
use Rattle.std.proofs.Common.{drop, arith}
use Rattle.std.proofs.lemmas.List.{take_rest}
use Rattle.zniffer_starts.proofs.IdleLaws.{first_start}
use Rattle.zniffer_starts.proofs.idle.idle_bytes.Goals as goal

pub returns : goal.returns
returns c =
    let at = c.past_quiet-at.result in
    omega (arith, first_start (drop at c.args.s.now) c.unwrap_or.result (rw take_rest at (rw c.first_start.ensures at c.unwrap_or.ensures)), c.past_quiet-at.ensures.1)
