-- `zlf::answer::open` meets its contract: what it gives has a header, and is within the limit. Assumes nothing.
use Rattle.zlf.proofs.Opened.{opened}
use Rattle.zlf.proofs.answer.open.Goals as goal

pub invariant_of-result : goal.invariant_of-result
invariant_of-result c = let h = opened _ _ _ c.in-Ok.ensures in record { has_header = h.0; fits = h.1 }
