-- `paging::page_of` meets its contract. Assumes nothing.
use Rattle.paging.proofs.Planning.{has_room}
use Rattle.paging.proofs.page_of.Goals as goal

pub returns : goal.returns
returns c = has_room _ _ _ _ _ _ _ c.count_rows-counted.ensures c.if-room-counted.false _ c.then_some.ensures
