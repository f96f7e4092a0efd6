-- `parser::run` meets its contract: the run of the numbers, and the payload with its bytes. Assumes nothing.
use Prim.Native.Nat.{ℕ, ◌≤◌, ◌<◌}
use lib.ListN.{length, get_or}
use mathlib.Core.Path.{◌≡◌, sym, ap, ◌∙◌}
use native.Mathlib.Omega.{arith}
use Rattle.zniffer_core.specs.Run.{core_run_from}
use Rattle.zniffer_core.proofs.RunLaws.{used_most}
use Rattle.zniffer.specs.Parse.{core_of}
use Rattle.zniffer.proofs.Filled.{run_parts, laid_by}
use Rattle.zniffer.proofs.parser.run.Goals as goal

pub slice_bounds-last-end : goal.slice_bounds-last-end
slice_bounds-last-end c = omega (arith, ap (λ t. t.used) c.run_core-ran.ensures, used_most c.args.s.now 0 c.from.result)

pub returns : goal.returns
returns c =
    let s = c.args.s.now in let p = c.args.p in let l = p.payload in
    let bytes : (k : ℕ) → get_or s k 0 < 256 = λ k. omega (arith, c.type_inv.s k) in
    let t = c.run_core-ran.result in
    let e : t ≡ core_run_from 0 s (core_of p) = c.run_core-ran.ensures ∙ ap (core_run_from 0 s) c.from.ensures in
    let room : c.from-end.result ≤ length l = omega (arith, c.held.ensures) in
    let in-s : t.used ≤ length s = omega (arith, ap (λ r. r.used) c.run_core-ran.ensures, used_most s 0 c.from.result) in
    let laid = laid_by s l c.copy_from_slice.new.self t c.from-end.result c.min-n.result (c.from-end.ensures ∙ c.held.ensures) c.min-n.ensures room in-s c.copy_from_slice.ensures.after in
    rw (c.settled.ensures, laid) (rw e (sym (run_parts s l bytes (core_of p))))
