-- `listing::put_pages` meets its contract: at each turn the text of the pages from `offset` on is left to be put. Assumes nothing.
use Prim.Native.Nat.{suc, ◌+◌, ◌-◌}
use lib.ListN.{length}
use mathlib.Core.Path.{◌≡◌, ap}
use native.Mathlib.Omega.{arith}
use Rattle.text.proofs.Puts.{joined, renamed, all_left, less_left, none_left, rest_put}
use Rattle.lines.specs.Lines.{refusal_text}
use Rattle.listing.specs.Listing.{pages_text}
use Rattle.listing.proofs.Pages.{more_text, last_text, unlisted}
use Rattle.listing.proofs.put_pages.Goals as goal

pub loop-init : goal.loop-init
loop-init c = let s = c.args.trace.bytes.now in let all : length s - 0 ≡ length s = omega arith in rw all (all_left _ _)

pub returns-in_default : goal.returns-in_default
returns-in_default c =
    let kinds = c.args.trace.kinds.now in let s = c.args.trace.bytes.now in let i = c.loop.counter in
    let one_less : length s - i ≡ suc (length s - (i + 1)) = omega arith in
    let t = c.frames_table-table in
    rest_put c.loop.invariant (last_text kinds s c.loop.offset t.result t.ensures (length s - i) (length s - (i + 1)) one_less c.in-Ok.page c.in-Ok.is c.in_default.is)
    (joined c.row_lines.ensures c.seam_line.ensures)

pub returns-in-Err : goal.returns-in-Err
returns-in-Err c =
    let kinds = c.args.trace.kinds.now in let s = c.args.trace.bytes.now in let i = c.loop.counter in
    let one_less : length s - i ≡ suc (length s - (i + 1)) = omega arith in
    let t = c.frames_table-table in
    rest_put c.loop.invariant (unlisted kinds s c.loop.offset t.result t.ensures (length s - i) (length s - (i + 1)) one_less c.in-Err.error c.in-Err.is)
    (renamed (ap refusal_text c.number.ensures) c.refusal_line.ensures)

pub loop-preserved : goal.loop-preserved
loop-preserved c =
    let kinds = c.args.trace.kinds.now in let s = c.args.trace.bytes.now in let i = c.loop.counter in
    let one_less : length s - i ≡ suc (length s - (i + 1)) = omega arith in
    let t = c.frames_table-table in
    less_left c.loop.invariant
    (more_text kinds s c.loop.offset t.result t.ensures (length s - i) (length s - (i + 1)) one_less c.in-Ok.page c.in-Ok.is c.in-Some.next c.in-Some.is)
    c.row_lines.ensures

pub returns : goal.returns
unfolding pages_text
returns c =
    let s = c.args.trace.bytes.now in
    let none : length s - c.loop.counter ≡ 0 = omega arith in
    none_left c.loop.invariant (rw none)
