-- `reader::sum_right` meets its contract: the header has as many bytes. Assumes nothing.
use Rattle.std.proofs.Common.{arith}
use Rattle.std.proofs.lemmas.List.{length-take}
use Rattle.reader.proofs.sum_right.Goals as goal

pub slice_bounds-header_sum-end : goal.slice_bounds-header_sum-end
slice_bounds-header_sum-end c = simp length-take (omega arith)
