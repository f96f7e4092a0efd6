-- `calendar::months_gone` meets its contract: after the last turn eleven months have gone by. Assumes nothing.
use Rattle.std.proofs.Common.{◌≡◌, sym, ◌∙◌, arith}
use Rattle.calendar.proofs.Searching.{last}
use Rattle.calendar.proofs.months_gone.Goals as goal

pub returns : goal.returns
returns c =
    let all : c.loop-m.m ≡ 11 = omega arith in
    let low = rw all at c.loop-m.invariant.0 in
    let found = rw all at c.loop-m.invariant.1 in
    record { value = sym (found ∙ last _ 11); bound = omega arith; gone = low }
