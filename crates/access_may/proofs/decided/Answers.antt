use mathlib.Core.Path.{◌∙◌}
use Rattle.access_set.specs.Member.{member}
use Rattle.access_may.specs.Laws.Decided.{row-member, decided-none, decided-at}
use borrow.Author.Rules.{rules}
use Rattle.access_may.proofs.decided.Goals as goal

pub returns-in_default : goal.returns-in_default
returns-in_default c = decided-none c.args.sets.now (member c.args.asked) c.first.result c.in_default.is c.first.ensures

pub returns : goal.returns
returns c = decided-at c.args.sets.now (member c.args.asked) c.in-Some.i c.first.result c.in-Some.is c.first.ensures c.has.result (c.has.ensures ∙ row-member _ _ _ c.row.ensures c.in-Some.i)
