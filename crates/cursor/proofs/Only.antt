-- A page's promise determines the answer and every lent row. Assumes nothing.
use mathlib.Core.List.{List}
use mathlib.Core.Path.{◌≡◌, sym, ◌∙◌}
use Rattle.rows.specs.declared.Row.{Row}
use Rattle.paging.proofs.Only.{only_page}
use Rattle.paging.specs.Page.{PageGiven}
use Rattle.paging.specs.declared.Page.{Page}
use Rattle.paging.specs.declared.PageError.{PageError}
use Rattle.std.specs.Prelude.{Result}
use Rattle.cursor.specs.Table.{Answered}

pub only_answer : (given : PageGiven) (before : List Row) (a b : Result Page PageError) (x y : List Row) → Answered given a before x → Answered given b before y → (a ≡ b) × (x ≡ y)
only_answer given before a b x y p q = (only_page a b (p.told ∙ sym q.told), p.rows ∙ sym q.rows)
