-- `trace_list::listed` meets its contract: the buffer has room for every list. Assumes nothing.
use borrow.Author.Rules.{rules}
use Rattle.listing_laws.proofs.Room.{whole_list}
use Rattle.trace_list.proofs.listed.Goals as goal

pub returns : goal.returns
returns c =
    record {
      out_after = whole_list c.args.input.now _ _ _ (λ k. (c.type_inv.input k).fits) (search rules) c.list.ensures.put;
      prefix_len = c.list.ensures.prefix_len;
    }
