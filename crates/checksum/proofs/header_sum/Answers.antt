-- `checksum::header_sum` meets its contract. Assumes nothing.
use Rattle.std.proofs.Common.{◌≡◌, ◌*◌, ◌/◌, length, arith, sym, ◌∙◌}
use Rattle.checksum.proofs.Octets.{word_more}
use Rattle.checksum.proofs.SumRule.{start_sum}
use Rattle.checksum.proofs.SumSteps.{byte_more, bytes_done}
use Rattle.checksum.proofs.header_sum.Goals as goal

pub loop-word-init : goal.loop-word-init
loop-word-init c = rw start_sum

pub loop-word-preserved : goal.loop-word-preserved
loop-word-preserved c =
    word_more _ _ _ _ _ _ (λ k. (c.type_inv.bytes k).fits) c.as_chunks.ensures.front (omega arith) c.from_be_bytes.ensures c.sum_word-register.ensures ∙ c.loop-word.invariant

pub loop-byte-init : goal.loop-byte-init
loop-byte-init c =
    let all : c.loop-word.word-index * 8 ≡ length c.args.bytes.now / 8 * 8 = omega arith in
    rw (c.remainder-sum.ensures, c.as_chunks.ensures.back) (rw all at c.loop-word.invariant)

pub loop-byte-preserved : goal.loop-byte-preserved
loop-byte-preserved c = rw c.sum_byte-sum.ensures (byte_more _ _ _ c.loop-byte-test.true ∙ c.loop-byte.invariant)

pub returns : goal.returns
returns c = sym (bytes_done _ _ _ c.loop-byte-test.false) ∙ c.loop-byte.invariant
