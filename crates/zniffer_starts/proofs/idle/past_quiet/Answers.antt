-- `idle::past_quiet` meets its contract. Assumes nothing.
use Rattle.std.proofs.Common.{◌/◌, length, arith}
use Rattle.zniffer_starts.proofs.IdleLaws.{blocks_passed}
use Rattle.zniffer_starts.proofs.idle.past_quiet.Goals as goal

pub overflow_mul-result : goal.overflow_mul-result
overflow_mul-result c =
    let p = blocks_passed (length c.args.s.now / 32) c.args.s.now (omega arith) in omega (arith, rw (← c.quiet_blocks.ensures) at p.within)

pub returns : goal.returns
returns c = let p = blocks_passed (length c.args.s.now / 32) c.args.s.now (omega arith) in rw c.quiet_blocks.ensures (p.within, p.goes_on)
