-- `listing::seam_line` meets its contract. Assumes nothing.
use mathlib.Core.Path.{sym, ap, ◌∙◌}
use Rattle.resync.specs.Search.{told_search}
use Rattle.text.proofs.Puts.{renamed}
use Rattle.lines.specs.Lines.{refusal_text}
use Rattle.listing.specs.Listing.{seam_found}
use Rattle.listing.proofs.Answers.{found_text, nothing_text, unsearched}
use Rattle.listing.proofs.seam_line.Goals as goal

pub returns-in-Some : goal.returns-in-Some
returns-in-Some c =
    let kinds = c.args.trace.kinds.now in let s = c.args.trace.bytes.now in
    renamed
    (found_text kinds s c.in-Ok.search _ _ c.in-Some.is c.seam_check.ensures ∙ ap (seam_found kinds s) (ap told_search (sym c.in-Ok.is) ∙ c.next_record_at.ensures))
    c.put_seam.ensures

pub returns-in-None : goal.returns-in-None
returns-in-None c =
    let kinds = c.args.trace.kinds.now in let s = c.args.trace.bytes.now in
    renamed (nothing_text kinds s c.in-Ok.search c.in-None.is ∙ ap (seam_found kinds s) (ap told_search (sym c.in-Ok.is) ∙ c.next_record_at.ensures))
    c.put_line.ensures

pub returns-in-Err : goal.returns-in-Err
returns-in-Err c =
    let kinds = c.args.trace.kinds.now in let s = c.args.trace.bytes.now in
    renamed
    (ap refusal_text c.number.ensures ∙ unsearched kinds s c.in-Err.error ∙ ap (seam_found kinds s) (ap told_search (sym c.in-Err.is) ∙ c.next_record_at.ensures))
    c.refusal_line.ensures
