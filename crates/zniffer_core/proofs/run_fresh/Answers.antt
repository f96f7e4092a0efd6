-- `run_fresh` meets its contract: what lies whole at the start is what its bytes come to. Assumes nothing.
use Prim.Native.Nat.{ℕ, ◌<◌}
use lib.ListN.{get_or}
use mathlib.Core.Path.{◌≡◌, sym, ap}
use native.Mathlib.Omega.{arith}
use Rattle.zniffer_core.proofs.Whole.{heads, whole_at_start}
use Rattle.zniffer_core.proofs.run_fresh.Goals as goal

pub overflow_add-used : goal.overflow_add-used
overflow_add-used c =
    let s = c.args.s.now in let bytes : (k : ℕ) → get_or s k 0 < 256 = λ k. omega (arith, c.type_inv.s k) in
    omega (arith, ap (λ h. h.size) c.header_of-h.ensures, (heads s bytes).small, c.from.ensures)

pub returns : goal.returns
returns c =
    let s = c.args.s.now in let bytes : (k : ℕ) → get_or s k 0 < 256 = λ k. omega (arith, c.type_inv.s k) in
    let h = c.header_of-h in let n = c.from in let e = h.ensures in
    let some : h.result.size ≡ 0 → ⊥ = λ z. omega (arith, z) in
    rw (c.fresh_core-2.ensures, c.whole_of.ensures, e) (sym (whole_at_start s bytes (rw e at some) n.result (rw e at n.ensures) (rw e at c.if-used-s.false)))
