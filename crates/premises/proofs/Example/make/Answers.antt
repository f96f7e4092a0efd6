-- `premises::Example::make` meets its contract: what is put stays inside the room. Assumes nothing.
use native.Mathlib.Omega.{arith}
use borrow.Author.Rules.{rules}
use Rattle.text.proofs.Puts.{inside}
use Rattle.premises.specs.Example.{bytes_of}
use Rattle.premises.proofs.Example.make.Goals as goal

pub returns-clause-inside : goal.returns-clause-inside
returns-clause-inside c = inside {text = bytes_of c.args.self} {before = c.args.room.now} {at = 0} (search rules) (omega arith)
