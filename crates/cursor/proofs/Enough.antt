-- Room enough can always be had: a table with as many rows as the trace has bytes is never refused with 7, so that demand 3's premises can be met
-- for every counts. Assumes nothing.
use Prim.Native.Nat.{ℕ, ◌≤◌}
use lib.ListN.{length}
use mathlib.Core.Bool.{false}
use mathlib.Core.List.{List}
use Rattle.std.specs.Prelude.{None}
use mathlib.Core.Path.{◌≡◌, sym, ap, ◌∙◌}
use Rattle.layout.specs.Layout.{header_size, trace_limit}
use Rattle.record.specs.Record.{Limits, next_at}
use Rattle.rows.specs.Rows.{rows_at}
use Rattle.rows.specs.declared.Row.{Row}
use Rattle.seam.specs.Seam.{seam_at, told_seam}
use Rattle.seam.specs.declared.Seam.{Seam}
use Rattle.seam.specs.declared.SeamError.{SeamError}
use Rattle.std.specs.Prelude.{Result, Ok}
use Rattle.paging.proofs.Sizes.{page_room}
use Rattle.paging.specs.Page.{PageTold}
use Rattle.cursor.specs.Reading.{Call, Asked, Roomy, Reading, joined, bare, rows_from}
use Rattle.cursor.proofs.Demand3.{pages_lose_nothing}
use Rattle.cursor.proofs.Whole.{reading_of}

module _ (limits : Limits) (kinds s : List ℕ) where
  -- of any call, from any place
  pub room_enough : (at : ℕ) (c : Call) → Asked limits kinds s at c → length s ≤ length c.lent → Roomy c
  room_enough at c o h z =
      page_room limits kinds s None at c.count (length c.lent) h (sym (ap (λ (t : PageTold). t.refusal) o.answered.told) ∙ z)

  -- so there are pages to the last, and they have all
  pub room_to_the_end : (place k : ℕ) (check : Result Seam SeamError) → length s ≤ trace_limit → header_size ≤ place → place ≤ length s → told_seam check ≡ seam_at limits kinds s place → check ≡ Ok (Seam.Unbroken k)
      → (counts : ℕ → ℕ) (tables : ℕ → List Row) → ((at : ℕ) → 1 ≤ counts at) → ((at : ℕ) → length s ≤ length (tables at))
      → (calls : List Call) × Reading (λ (at : ℕ) (c : Call). Asked limits kinds s at c × Roomy c) place calls false × (bare (joined calls) ≡ rows_from (next_at limits kinds s) (rows_at kinds s) (length s) place)
  room_to_the_end place k check fits low high checked e counts tables h enough =
      let d = pages_lose_nothing limits kinds s place check fits low high checked in
      let r = d.reads k e counts tables h in
      let roomy = reading_of {B = λ (at : ℕ) (c : Call). Asked limits kinds s at c × Roomy c} (λ at c o. (o.0, room_enough at c o.0 (rw o.1.table_is (enough at)))) r.1 in
      (r.0, roomy, d.whole k e r.0 roomy)
