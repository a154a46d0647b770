use Rattle.access_set.specs.Member.{bit_of}
use borrow.Author.Rules.{rules}
use Rattle.tables.proofs.plan.chosen.Goals as goal

pub returns : goal.returns
unfolding bit_of
returns c = search rules
