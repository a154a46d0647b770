use mathlib.Core.Path.{sym, ap, ◌∙◌}
use mathlib.Core.Bool.{Bool, not, ◌&&◌}
use lib.Dec.{ltb}
use Rattle.sheet_kind.specs.Laws.Kinds.{is-kind, not-kind}
use Rattle.filter_lines.specs.Lines.{type_rank}
use Rattle.filter_matchable.specs.Laws.Mask.{operator-group, operator-not, operator-none}
use Rattle.filter_matchable.proofs.mask.sought.Goals as goal

pub returns-then-joins : goal.returns-then-joins
returns-then-joins c = ap (λ (o : Bool). not o && ltb (type_rank c.args.rows.now c.args.k) 64) (sym (operator-group c.args.rows.now c.args.k (sym c.joins.ensures ∙ c.if-joins.true)))

pub returns-then-is : goal.returns-then-is
returns-then-is c = ap (λ (o : Bool). not o && ltb (type_rank c.args.rows.now c.args.k) 64) (sym (operator-not c.args.rows.now c.args.k (is-kind c.is.ensures c.if-is.true)))

pub returns : goal.returns
returns c = ap (λ (o : Bool). not o && ltb (type_rank c.args.rows.now c.args.k) 64) (sym (operator-none c.args.rows.now c.args.k (sym c.joins.ensures ∙ c.if-joins.false) (not-kind c.is.ensures c.if-is.false)))
