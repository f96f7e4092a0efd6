-- `resync::search_from` meets its contract, by the answers of Searched. Assumes nothing.
use mathlib.Core.Path.{◌≡◌}
use native.Mathlib.Omega.{arith}
use Rattle.std.proofs.lemmas.Result.{err_from_is_err_and}
use Rattle.resync.proofs.Searched.{window_too_long, no_offset, is_there, is_not}
use Rattle.resync.specs.declared.SearchError.TheVariants as Why
use Rattle.resync.proofs.search_from.Goals as goal

pub returns-in_err-end : goal.returns-in_err-end
returns-in_err-end c =
    let p = err_from_is_err_and c.from_residual.result c.from_residual.ensures.1 in
    let z = c.in_err-end.ensures.ok_part in
    let over = rw z at c.checked_add.ensures in
    let v = rw z at c.in_err-end.ensures.value in
    let why : c.in_err-end.field-0.0 ≡ Why.WindowTooLong = cc in
    rw (p.1, p.2, why) (window_too_long _ _ _ _ c.args.trace.fits _ c.max-start.ensures (omega arith))

pub returns-then-limit-start : goal.returns-then-limit-start
returns-then-limit-start c =
    let room = rw c.in_ok-end.ensures.ok_part at c.checked_add.ensures in
    no_offset _ _ _ _ c.args.trace.fits _ c.max-start.ensures (omega (arith, room.0)) _ (rw (room.1) at c.min-limit.ensures) c.if-limit-start.true

pub returns-then-offset-limit : goal.returns-then-offset-limit
returns-then-offset-limit c =
    let room = rw c.in_ok-end.ensures.ok_part at c.checked_add.ensures in
    is_there _ _ _ _ c.args.trace.fits _ c.max-start.ensures (omega (arith, room.0)) _ (rw (room.1) at c.min-limit.ensures) _ c.first_boundary-offset.ensures c.if-offset-limit.true

pub returns : goal.returns
returns c =
    let room = rw c.in_ok-end.ensures.ok_part at c.checked_add.ensures in
    is_not _ _ _ _ c.args.trace.fits _ c.max-start.ensures (omega (arith, room.0)) _ (rw (room.1) at c.min-limit.ensures) _ c.first_boundary-offset.ensures c.if-offset-limit.false
