-- `names::put_time` meets its contract. Assumes nothing.
use mathlib.Core.Path.{ap, ◌∙◌}
use Rattle.written.specs.Written.{iso_text}
use Rattle.text.proofs.Puts.{renamed}
use Rattle.names.proofs.Texts.{dated, undated}
use Rattle.names.proofs.put_time.Goals as goal

pub returns-then-i-lt-YEARS_END : goal.returns-then-i-lt-YEARS_END
returns-then-i-lt-YEARS_END c =
    renamed (c.iso.ensures ∙ ap iso_text c.date_of.ensures ∙ dated _ c.ranges.millis _ c.instant-i.ensures c.if-i-lt-YEARS_END.true) c.put_text.ensures

pub returns-else-i-lt-YEARS_END : goal.returns-else-i-lt-YEARS_END
returns-else-i-lt-YEARS_END c = renamed (undated _ c.ranges.millis _ c.instant-i.ensures c.if-i-lt-YEARS_END.false) c.put_signed.ensures
