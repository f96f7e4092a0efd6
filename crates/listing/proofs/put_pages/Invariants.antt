-- `listing::put_pages` meets its contract: at each turn the text of the pages from `offset` on is left to be put. Assumes nothing.
use Prim.Native.Nat.{◌-◌}
use lib.ListN.{length}
use Rattle.layout.specs.Layout.{header_size}
use Rattle.text.proofs.Puts.{Left}
use Rattle.listing.specs.Listing.{pages_text, page_of, seam_text}
use Rattle.listing.proofs.put_pages.Given as goal

abbrev pub invariant-loop : goal.invariant-loop
invariant-loop l =
    let kinds = l.trace.kinds.now in let s = l.trace.bytes.now in
    let text = pages_text (page_of kinds s) (seam_text kinds s) in
    Left (text (length s) header_size) l.initial.out (text (length s - l.counter) l.offset) l.out
