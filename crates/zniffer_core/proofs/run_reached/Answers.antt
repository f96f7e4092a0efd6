-- `run_reached` meets its contract. The loop's invariant: the parser passes the test, and what is left of the bytes, from it, ends as all of them from the first. The measure is what is left of the length.
-- Bytes that are passed over before a byte change no end. Assumes nothing.
use Prim.Native.Nat.{◌<◌, ◌≤◌}
use lib.ListN.{length, get_or}
use mathlib.Core.Bool.{true, false}
use mathlib.Core.Path.{◌≡◌, sym, ◌∙◌}
use native.Mathlib.Omega.{arith}
use Rattle.zniffer_numbers.specs.Numbers.{goes_on}
use Rattle.zniffer_core.specs.Run.{core_step_of}
use Rattle.zniffer_core.proofs.RunLaws.{took, run_more, run_last, run_end}
use Rattle.zniffer_core.proofs.Kept.{kept}
use borrow.Author.Rules.{rules}
use Rattle.zniffer_core.proofs.run_reached.Goals as goal

pub returns-in_default : goal.returns-in_default
returns-in_default c =
    let s = c.args.s.now in let on = c.skip_ahead-ahead in let i = on.result.at in
    let all = sym on.ensures.3 ∙ c.loop-value.invariant.2 in
    let past : length s ≤ i = search rules in
    sym (run_end s i on.result.core _ all (omega (arith, on.ensures.0, past)))

pub returns-then-not-goes_on : goal.returns-then-not-goes_on
returns-then-not-goes_on c =
    let s = c.args.s.now in let on = c.skip_ahead-ahead in let i = on.result.at in let q = on.result.core in let byte = c.take_byte-t in
    let all = sym on.ensures.3 ∙ c.loop-value.invariant.2 in
    let inside : i < length s = search rules in let read : c.in-Some.value.now ≡ get_or s i 0 = search rules in
    let e : byte.result ≡ core_step_of q (get_or s i 0) = rw read at byte.ensures ∙ took q (get_or s i 0) on.ensures.2 in
    let g : goes_on (core_step_of q (get_or s i 0)).result ≡ false = rw (← e, ← c.goes_on.ensures) c.if-not-goes_on.true in
    rw e (sym (run_last s i q _ all inside g))

pub loop-value-preserved : goal.loop-value-preserved
loop-value-preserved c =
    let s = c.args.s.now in let on = c.skip_ahead-ahead in let i = on.result.at in let q = on.result.core in let byte = c.take_byte-t in
    let all = sym on.ensures.3 ∙ c.loop-value.invariant.2 in
    let inside : i < length s = search rules in let read : c.in-Some.value.now ≡ get_or s i 0 = search rules in
    let e : byte.result ≡ core_step_of q (get_or s i 0) = rw read at byte.ensures ∙ took q (get_or s i 0) on.ensures.2 in
    let g : goes_on (core_step_of q (get_or s i 0)).result ≡ true = rw (← e, ← c.goes_on.ensures) c.if-not-goes_on.false in
    let fits : get_or s i 0 < 256 = omega (arith, c.type_inv.s i) in
    (omega (arith, inside), rw e (kept q (get_or s i 0) fits), rw e (run_more s i q _ all inside g))
