-- A result told in numbers: which case it is, and what the case holds. That it tells two results apart is `told_only` of zniffer_laws/proofs/ToldOnly.antt.
use Rattle.std.specs.Prelude.{ℕ}
use Rattle.zniffer_numbers.specs.declared.ParserResult.{ParserResult}
use Rattle.zniffer_numbers.specs.declared.ParserResult.TheVariants.{ValidCommand, ValidFrame, IncompleteFrame, InvalidFrame}

-- which: 0 IncompleteFrame, 1 ValidCommand, 2 ValidFrame, 3 InvalidFrame; the rest 0 where the case has none
pub record Told : Type 0 where
  pub which : ℕ
  pub id : ℕ
  pub timestamp : ℕ
  pub channel : ℕ
  pub speed : ℕ
  pub region : ℕ
  pub rssi : ℕ
  pub length : ℕ

abbrev pub told : ParserResult → Told
told IncompleteFrame = record { which = 0; id = 0; timestamp = 0; channel = 0; speed = 0; region = 0; rssi = 0; length = 0 }
told (ValidCommand i n) = record { which = 1; id = i; timestamp = 0; channel = 0; speed = 0; region = 0; rssi = 0; length = n }
told (ValidFrame w k v g r n) = record { which = 2; id = 0; timestamp = w; channel = k; speed = v; region = g; rssi = r; length = n }
told InvalidFrame = record { which = 3; id = 0; timestamp = 0; channel = 0; speed = 0; region = 0; rssi = 0; length = 0 }
