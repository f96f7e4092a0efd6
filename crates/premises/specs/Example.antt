-- The bytes of the example traces.
use Rattle.std.specs.Prelude.{ℕ, List}
use Rattle.plain_examples.specs.Traces.{tail, falling, nested, distant, large}
use Rattle.premises.specs.declared.Example.{Example}
use Rattle.premises.specs.declared.Example.TheVariants.{Tail, Falling, Nested, Distant, Large}

abbrev pub bytes_of : Example → List ℕ
bytes_of Tail = tail
bytes_of Falling = falling
bytes_of Nested = nested
bytes_of Distant = distant
bytes_of Large = large
