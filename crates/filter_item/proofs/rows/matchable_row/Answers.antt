use Rattle.filter_item.specs.Laws.Rows.{matchable-other, matchable-same}
use Rattle.filter_item.proofs.rows.matchable_row.Goals as goal

pub returns-then-held-i : goal.returns-then-held-i
returns-then-held-i c = matchable-other c.args.held.now c.args.values.now c.args.sought.first c.args.sought.rank c.args.i c.if-held-i.true

pub returns : goal.returns
returns c = matchable-same c.args.held.now c.args.values.now c.args.sought.first c.args.sought.rank c.args.i c.if-held-i.false
