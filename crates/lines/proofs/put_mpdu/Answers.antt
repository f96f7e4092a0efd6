-- `lines::put_mpdu` meets its contract. Assumes nothing.
use borrow.Author.Rules.{rules}
use mathlib.Core.List.{[], ◌∷◌}
use Rattle.text.specs.Texts.{decimal_text, signed_text}
use Rattle.lines.proofs.Lines.{fields, same_fields, narrow}
use Rattle.lines.proofs.put_mpdu.Goals as goal

pub returns : goal.returns
returns c =
    let r = c.args.r in
    fields {a = signed_text r.rssi ∷ []} {b = decimal_text r.beam_count ∷ decimal_text r.mpdu ∷ decimal_text r.mpdu_len ∷ []}
    (same_fields (narrow {x = r.rssi} (search rules) c.from.ensures) c.put_signed_field.ensures)
    (same_fields (cc) c.put_fields.ensures)
