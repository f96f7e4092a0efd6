-- `listing::list` meets its contract. Assumes nothing.
use borrow.Author.Rules.{rules}
use Rattle.listing.specs.Listing.{list_text}
use Rattle.listing.proofs.Answers.{counted}
use Rattle.listing.proofs.list.Goals as goal

pub returns-clause-prefix_len : goal.returns-clause-prefix_len
returns-clause-prefix_len c = counted {text = list_text c.args.input.now} {before = c.args.out.now} (search rules)
