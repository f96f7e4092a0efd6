-- `fields::frame_fields` meets its contract. Assumes nothing.
use Prim.Native.Nat.{ℕ}
use mathlib.Core.List.{[], ◌∷◌, ◌++◌}
use mathlib.Core.Path.{ap, ◌∙◌}
use Rattle.text.proofs.Puts.{joined, renamed}
use Rattle.text.specs.Texts.{decimal_text}
use Rattle.fields.proofs.Same.{frame_is}
use Rattle.lines.specs.Lines.{lettered, spaced, row_fields}
use Rattle.names.specs.Names.{mpdu_text}
use Rattle.fields.proofs.frame_fields.Goals as goal

pub returns : goal.returns
returns c =
    let a = c.args in
    renamed (ap (λ (k : ℕ). (lettered 0x46 (row_fields a.row) ++ spaced (decimal_text k ∷ [])) ++ mpdu_text a.mpdu.now) c.from.ensures ∙ frame_is a.kind a.row a.mpdu.now)
    (joined (joined c.put_row.ensures c.put_field.ensures.puts) c.put_mpdu.ensures)
