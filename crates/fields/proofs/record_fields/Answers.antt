-- `fields::record_fields` meets its contract. Assumes nothing.
use mathlib.Core.Path.{ap, ◌∙◌}
use mir.Syntax.{w64}
use mir.ValLaws.{to_z-of_z}
use borrow.Author.Rules.{sfits_of}
use Rattle.text.proofs.Puts.{joined, renamed}
use Rattle.fields.specs.Fields.{signed_field, lettered, fields_of, record_fields}
use Rattle.fields.proofs.Same.{fields_are, signed_is}
use Rattle.fields.proofs.record_fields.Goals as goal

pub returns : goal.returns
unfolding record_fields lettered signed_field
returns c =
    joined
    (joined
    (joined
    (joined c.put_byte.ensures (renamed (fields_are _) c.put_fields.ensures.puts))
    (renamed (signed_is _ ∙ ap signed_field (to_z-of_z w64 c.unix_millis.result (sfits_of c.unix_millis.type_inv) ∙ c.unix_millis.ensures)) c.put_signed_field.ensures.puts))
    (renamed (fields_are _ ∙ ap fields_of c.marks.ensures) c.put_fields-2.ensures.puts))
    c.put_byte-2.ensures
