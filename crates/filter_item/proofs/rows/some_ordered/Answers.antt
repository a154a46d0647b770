use Rattle.filter_item.specs.Rows.{beside_by}
use borrow.Author.Rules.{rules}
use Rattle.filter_item.proofs.rows.some_ordered.Goals as goal

pub returns : goal.returns
returns c = c.some_row.ensures (beside_by c.args.s c.args.least c.args.v.now) (λ u b l q. search rules)
