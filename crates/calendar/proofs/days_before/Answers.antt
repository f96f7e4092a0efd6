-- `calendar::days_before` meets its contract: the table has the days before each month, and a leap year one more from March on. Assumes
-- nothing.
use Rattle.calendar.proofs.Months.{starts, entry}
use Rattle.calendar.proofs.days_before.Goals as goal
use Rattle.calendar.proofs.days_before.Goals.{then-leap, else-leap}

pub returns : goal.returns
unfolding starts
returns c =
    let e =
    entry c.args.leap c.if-leap.from c.args.months c.from.result c.requires
    (elim c.if-leap.branch [ then-leap w ↦ rw (w.from-is, w.if-leap.true) | else-leap w ↦ rw (w.from-is, w.if-leap.false) ])
    c.from.ensures in
    record { value = e.0; bound = e.1 }
