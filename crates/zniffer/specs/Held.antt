-- How many bytes of a payload there are.
use Rattle.std.specs.Prelude.{ℕ}
use Rattle.zniffer_numbers.specs.declared.Core.{Core}
use Rattle.zniffer_numbers.specs.declared.ParserResult.{ParserResult}
use Rattle.zniffer_numbers.specs.declared.ParserResult.TheVariants.{ValidCommand, ValidFrame, IncompleteFrame, InvalidFrame}

-- those so far, where more are wanted, and else those that the result hands out
abbrev pub held_by : Core → ParserResult → ℕ
held_by c IncompleteFrame = c.count
held_by c InvalidFrame = 0
held_by c (ValidCommand i n) = n
held_by c (ValidFrame w k v g r n) = n
