-- `written::number_in` meets its contract. Assumes nothing.
use Rattle.std.proofs.Common.{◌≡◌, ◌<◌, get_or, arith, ◌∙◌, ap, sym}
use Rattle.std.specs.Char.{digit_value}
use Rattle.written.proofs.Reading.{most, bound_next, value_next, digits_next}
use Rattle.written.proofs.number_in.Goals as goal

pub overflow_mul-n : goal.overflow_mul-n
overflow_mul-n c = let most = most c.loop-c.c-index c.loop-c.n c.loop-c.invariant.bound (omega arith) in omega arith

pub overflow_add-n : goal.overflow_add-n
overflow_add-n c =
    let most = most c.loop-c.c-index c.loop-c.n c.loop-c.invariant.bound (omega arith) in
    let digit = c.in_ok-to_digit.ensures.value in
    omega arith

pub loop-c-preserved : goal.loop-c-preserved
loop-c-preserved c =
    let l = c.loop-c in
    let read : digit_value (get_or c.args.text.now l.c-index 0) ≡ c.from-in-loop-c.result =
    ap digit_value (sym c.from.ensures) ∙ sym c.in_ok-to_digit.ensures.value.1 ∙ sym c.from-in-loop-c.ensures in
    let small : c.from-in-loop-c.result < 10 = rw (← read, ← c.from.ensures) c.in_ok-to_digit.ensures.value.0 in
    record {
      long = l.invariant.long;
      bound = bound_next l.c-index l.n c.from-in-loop-c.result l.invariant.bound small;
      value = l.invariant.value ∙ value_next _ _ _ _ c.loop-c-test.true small read;
      digits = l.invariant.digits ∙ digits_next _ _ c.loop-c-test.true (rw read small);
    }
