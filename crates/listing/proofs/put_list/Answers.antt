-- `listing::put_list` meets its contract. Assumes nothing.
use Prim.Native.Nat.{◌≤◌}
use lib.ListN.{length}
use Rattle.std.proofs.lemmas.Bool.Decides.{nat_tests}
use native.Mathlib.Omega.{arith}
use borrow.Author.Rules.{rules}
use Rattle.text.proofs.Puts.{renamed}
use Rattle.listing.proofs.Answers.{unlisted_text, listed_text}
use Rattle.listing.proofs.put_list.Goals as goal

pub returns-then-not-contains : goal.returns-then-not-contains
returns-then-not-contains c = renamed (unlisted_text c.args.input.now (λ h. search rules)) c.refusal_line.ensures

pub returns : goal.returns
returns c =
    let tells = rw c.if-not-contains.false at c.contains.ensures.cases in
    let low : 260 ≤ length c.args.input.now = grind (arith, nat_tests, tells.0, c.new.ensures.start) in
    let high : length c.args.input.now ≤ 8192 = grind (arith, nat_tests, tells.1, c.new.ensures.end) in
    renamed
    (listed_text c.args.input.now _ _ (rw c.unwrap.ensures at c.first_chunk.ensures.cases).same c.u32_at.ensures low high)
    c.list_trace.ensures
