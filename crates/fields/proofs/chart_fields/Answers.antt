-- `fields::chart_fields` meets its contract. Assumes nothing.
use Prim.Native.Nat.{ℕ}
use lib.ListN.{drop}
use mathlib.Core.Path.{◌≡◌, refl, ap, ◌∙◌}
use Rattle.text.proofs.Puts.{joined, renamed, less_left, none_left}
use native.Mathlib.Omega.{arith}
use Rattle.speed.specs.Chart.{row_for}
use Rattle.speed.specs.Speed.{speed_for}
use borrow.Author.Rules.{rules}
use Rattle.fields.specs.Fields.{field, fields_of, line_of, lettered, chart_fields}
use Rattle.fields.proofs.Same.{field_is, next_rate}
use Rattle.fields.proofs.chart_fields.Goals as goal

-- a rate is that of its channel and region, whatever they are written as
same_rate : (x y channel region : ℕ) → x ≡ channel → y ≡ region → speed_for x y ≡ speed_for channel region
same_rate x y channel region e f = rw (e, f) refl

pub loop-channel-preserved : goal.loop-channel-preserved
loop-channel-preserved c =
    less_left c.loop-channel.invariant (next_rate c.args.region c.loop-channel.channel (search rules))
    (renamed (field_is _ ∙ ap field (c.from-in-loop-channel.ensures ∙ c.speed_for.ensures ∙ same_rate _ _ _ _ (omega arith) (omega arith))) c.put_field-in-loop-channel.ensures.puts)

pub returns : goal.returns
unfolding chart_fields line_of lettered fields_of
returns c =
    let four : c.loop-channel.channel ≡ 4 = omega arith in
    joined
    (joined
    (joined c.put_byte.ensures (renamed (field_is _ ∙ ap field c.from.ensures) c.put_field.ensures.puts))
    (none_left c.loop-channel.invariant (ap (λ (i : ℕ). fields_of (drop i (row_for c.args.region))) four)))
    c.put_byte-2.ensures
