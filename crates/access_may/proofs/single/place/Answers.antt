use Rattle.access_set.specs.Member.{member}
use Rattle.access_may.specs.Laws.Decided.{first-none, first-at}
use borrow.Author.Rules.{rules}
use Rattle.access_may.proofs.single.place.Goals as goal

pub returns-in_default : goal.returns-in_default
returns-in_default c = first-none (member c.args.s) c.first.result c.in_default.is c.first.ensures

pub returns : goal.returns
returns c = first-at (member c.args.s) c.in-Some.i c.first.result c.in-Some.is c.first.ensures
