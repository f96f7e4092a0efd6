-- `show::chart_line` meets its contract: one text after the other. Assumes nothing.
use Rattle.text.proofs.Puts.{joined}
use Rattle.show.specs.Person.{chart_text}
use Rattle.show.proofs.Texts.{same_right}
use Rattle.show.proofs.chart_line.Goals as goal

pub returns : goal.returns
unfolding chart_text
returns c =
    joined
    (joined
    (joined
    (joined (same_right 6 c.from.ensures c.put_right.ensures) c.put_text.ensures)
    c.put_region.ensures)
    c.put_rates.ensures)
    c.put_byte.ensures
