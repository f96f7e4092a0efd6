-- The lines of the wall chart that `zlf speeds` prints.
use Rattle.std.specs.Prelude.{ℕ, zero, suc, Bool, cond, List, [], ◌++◌}
use Rattle.fields.specs.Fields.{chart_fields}
use Rattle.show.specs.Person.{chart_text}

-- a region's line, for a script or for a person
abbrev pub region_line : Bool → ℕ → List ℕ
region_line plain region = cond plain (chart_fields region) (chart_text region)

-- the lines of the regions below a number, from 0 on
unfoldable pub lines_below : Bool → ℕ → List ℕ
lines_below plain zero = []
lines_below plain (suc n) = lines_below plain n ++ region_line plain n
