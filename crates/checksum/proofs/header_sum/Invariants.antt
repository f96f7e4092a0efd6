-- `checksum::header_sum` meets its contract. The invariants: the bytes from the eight at hand on, and then those that are left, lead from the
-- sum so far to the sum of all. Assumes nothing.
use Rattle.std.proofs.Common.{◌≡◌, ◌*◌, drop}
use Rattle.checksum.specs.Sum.{sum_from, sum_of}
use Rattle.checksum.specs.Division.{sum_in}
use Rattle.checksum.proofs.header_sum.Given as goal

abbrev pub invariant-loop-word : goal.invariant-loop-word
invariant-loop-word l = sum_from (sum_in l.register) (drop (l.word-index * 8) l.bytes) ≡ sum_of l.bytes

abbrev pub invariant-loop-byte : goal.invariant-loop-byte
invariant-loop-byte l = sum_from l.sum (drop l.byte-index l.rest) ≡ sum_of l.bytes
