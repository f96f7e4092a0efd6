-- `rows::frame_count` meets its contract: a frame counts one. Assumes nothing.
use native.Mathlib.Omega.{arith}
use Rattle.rows.proofs.Walk.{counted}
use Rattle.rows.proofs.frame_count.Goals as goal

pub overflow_add-count : goal.overflow_add-count
overflow_add-count c = omega (arith, counted _ _ _ _ _ c.in-Some.ensures)

pub loop-found-smaller : goal.loop-found-smaller
loop-found-smaller c = omega (arith, counted _ _ _ _ _ c.in-Some.ensures)

pub loop-found-preserved : goal.loop-found-preserved
loop-found-preserved c = let one = counted _ _ _ _ _ c.in-Some.ensures in (omega arith, omega arith)
