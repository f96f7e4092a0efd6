-- The table that is lent has 600 rows with nothing in them. Assumes nothing.
use Rattle.record.specs.Record.{plausible}
use Rattle.std.specs.Prelude.{None}
use Rattle.std.proofs.Common.{◌≡◌, rules}
use Rattle.steps.specs.Step.{blank_row}
use Rattle.paging.specs.Page.{page_at}
use Rattle.cursor.proofs.Fills.{into_blanks}
use Rattle.cursor.proofs.frames_table.Goals as goal

pub returns : goal.returns
returns c =
    let e : c.default-rows.result ≡ blank_row = search rules in
    into_blanks (page_at plausible c.args.trace.kinds.now c.args.trace.bytes.now None c.args.offset c.args.count) c.frames_at-page.result c.default-rows.result c.frames_at-page.new.table e
    c.frames_at-page.ensures
