-- `listing::list_trace` meets its contract. Assumes nothing.
use mathlib.Core.Path.{sym, ap, ◌∙◌}
use lib.ListN.{length}
use Rattle.layout.specs.Layout.{header_size}
use Rattle.seam.specs.Opening.{OpeningTold, told_opening}
use Rattle.text.proofs.Puts.{joined, renamed}
use Rattle.lines.specs.Lines.{version_text, refusal_text}
use Rattle.listing.specs.Listing.{pages_text, page_of, seam_text, opened_text}
use Rattle.listing.proofs.Answers.{unopened}
use Rattle.listing.proofs.list_trace.Goals as goal

pub returns-in-Ok : goal.returns-in-Ok
unfolding opened_text
returns-in-Ok c =
    let kinds = c.args.trace.kinds.now in let s = c.args.trace.bytes.now in
    let pages = pages_text (page_of kinds s) (seam_text kinds s) (length s) header_size in
    renamed (ap (λ (o : OpeningTold). opened_text o pages) (ap told_opening (sym c.in-Ok.is) ∙ c.open.ensures))
    (joined (renamed (ap version_text c.from.ensures) c.put_line.ensures) c.put_pages.ensures)

pub returns-in-Err : goal.returns-in-Err
returns-in-Err c =
    let kinds = c.args.trace.kinds.now in let s = c.args.trace.bytes.now in
    let pages = pages_text (page_of kinds s) (seam_text kinds s) (length s) header_size in
    renamed
    (ap refusal_text c.number.ensures ∙ unopened pages c.in-Err.error ∙ ap (λ (o : OpeningTold). opened_text o pages) (ap told_opening (sym c.in-Err.is) ∙ c.open.ensures))
    c.refusal_line.ensures
