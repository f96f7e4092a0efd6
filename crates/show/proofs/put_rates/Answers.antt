-- `show::put_rates` meets its contract: at each turn the rates from the channel that comes on are left to be put. Assumes nothing.
use Prim.Native.Nat.{ℕ}
use lib.ListN.{drop}
use mathlib.Core.Path.{◌≡◌, ap, ◌∙◌}
use native.Mathlib.Omega.{arith}
use borrow.Author.Rules.{rules}
use Rattle.speed.specs.Chart.{row_for}
use Rattle.speed.specs.Speed.{speed_for}
use Rattle.text.proofs.Puts.{renamed, less_left, none_left}
use Rattle.show.specs.Person.{rate_text, rates_text}
use Rattle.show.proofs.Texts.{next_rate}
use Rattle.show.proofs.put_rates.Goals as goal

pub loop-channel-preserved : goal.loop-channel-preserved
loop-channel-preserved c =
    less_left c.loop-channel.invariant (next_rate c.args.region c.loop-channel.channel (search rules)) (renamed (ap rate_text (c.speed_for.ensures ∙ ap (λ (k : ℕ). speed_for k c.args.region) (omega arith))) c.put_rate.ensures)

pub returns : goal.returns
unfolding rates_text
returns c =
    let four : c.loop-channel.channel ≡ 4 = omega arith in
    none_left c.loop-channel.invariant (ap (λ (i : ℕ). rates_text (drop i (row_for c.args.region))) four)
