-- `written::number_in` meets its contract. The invariant: the text is all digits where what is left is, and its number is that of what is left,
-- from the number so far on, which so many digits bound. Assumes nothing.
use Rattle.std.proofs.Common.{◌≡◌, ◌<◌, ◌≤◌, ◌^◌, length, drop}
use Rattle.written.specs.Written.{all_digits, value_from}
use Rattle.written.proofs.number_in.Given as goal

abbrev pub invariant-loop-c : goal.invariant-loop-c
invariant-loop-c l = record {
  long : length l.text ≤ 17;
  bound : l.n < 10 ^ l.c-index;
  value : value_from 0 l.text ≡ value_from l.n (drop l.c-index l.text);
  digits : all_digits l.text ≡ all_digits (drop l.c-index l.text);
}
