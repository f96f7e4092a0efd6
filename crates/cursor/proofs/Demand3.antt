-- DEMAND 3. Of a trace of at most 1,073,741,824 bytes and a place from 2,048 to its length, with what `seam_check` answered there: the check says
-- unbroken exactly where valid records follow one another from there to the last byte, with their number; where it says so, pages read by
-- `frames_at`, each from the place that the last one named, with any counts of at least 1, end; the rows of these pages (of each table lent, the
-- first as many as its answer's size), joined, gaps aside, are with room enough the rows of every record from there to the end, once, in order,
-- each with its record's offset and its position; and the gaps of a page are 0 on its first row and else the difference to the row before.
-- `Demand` of specs/Demand.antt says this sentence by sentence. `seam_at` and `page_at` are what the contracts of the two functions say, here
-- for any tick limits.
use Prim.Native.Nat.{ℕ, ◌≤◌}
use lib.ListN.{length}
use mathlib.Core.List.{List}
use mathlib.Core.Path.{◌≡◌}
use Rattle.layout.specs.Layout.{header_size, trace_limit}
use Rattle.record.specs.Record.{Limits}
use Rattle.seam.specs.Seam.{seam_at, told_seam}
use Rattle.seam.specs.declared.Seam.{Seam}
use Rattle.seam.specs.declared.SeamError.{SeamError}
use Rattle.std.specs.Prelude.{Result}
use Rattle.cursor.specs.Demand.{Demand}
use Rattle.cursor.proofs.Whole.{demanded}

pub pages_lose_nothing :
    (limits : Limits) (kinds s : List ℕ) (place : ℕ) (check : Result Seam SeamError)
    → length s ≤ trace_limit
    → header_size ≤ place
    → place ≤ length s
    → told_seam check ≡ seam_at limits kinds s place
    → Demand limits kinds s place check
pages_lose_nothing = demanded
