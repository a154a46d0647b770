use mathlib.Core.Path.{sym, ◌∙◌}
use Rattle.name.specs.Laws.Schema.{equal-apart}
use Rattle.filter_item.proofs.rows.equal.Goals as goal

pub returns : goal.returns
returns c = sym (equal-apart c.args.s c.args.v.now c.args.u.now (sym c.same.ensures ∙ c.if-same.false))
