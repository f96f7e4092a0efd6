-- `steps::valid_record` meets its contract: a valid record's payload lies in the trace. Assumes nothing.
use native.Mathlib.Omega.{arith}
use Rattle.steps.proofs.Headers.{header, cut}
use Rattle.steps.proofs.valid_record.Goals as goal

pub overflow_add-first : goal.overflow_add-first
overflow_add-first c =
    let h = header c.args.trace.kinds.now c.args.trace.bytes.now c.args.offset c.in-Some.header c.in-Some.ensures in
    omega (arith, h.inside)

pub overflow_add-result : goal.overflow_add-result
overflow_add-result c =
    let h = header c.args.trace.kinds.now c.args.trace.bytes.now c.args.offset c.in-Some.header c.in-Some.ensures in
    omega (arith, h.inside)

pub slice_bounds-result-end : goal.slice_bounds-result-end
slice_bounds-result-end c =
    let h = header c.args.trace.kinds.now c.args.trace.bytes.now c.args.offset c.in-Some.header c.in-Some.ensures in
    omega (arith, h.inside)

pub returns-clause-payload : goal.returns-clause-payload
returns-clause-payload c = cut _ _ _ _ (header c.args.trace.kinds.now c.args.trace.bytes.now c.args.offset c.in-Some.header c.in-Some.ensures)
