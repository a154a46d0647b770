use mathlib.Core.Path.{refl, ◌∙◌}
use mathlib.Core.Bool.{true, false}
use Rattle.sheet_kind.specs.Laws.Kinds.{is-kind, not-kind}
use Rattle.rules.specs.Value.{text, contains}
use Rattle.name.specs.Schema.{equal_by}
use Rattle.filter_lines.specs.Lines.{kind_at, line_value, pieces_at}
use Rattle.filter_item.specs.Laws.Items.{satisfied-present, satisfied-equality, satisfied-least, satisfied-most, satisfied-pieces}
use borrow.Author.Rules.{rules}
use Rattle.filter_item.proofs.item.satisfied.Goals as goal

pub returns-then-is : goal.returns-then-is
returns-then-is c = c.holds.ensures ∙ satisfied-present c.args.s (kind_at c.args.rows.now c.args.k) (pieces_at c.args.q.now c.args.rows.now c.args.lines c.args.k) (line_value c.args.q.now c.args.rows.now c.args.k) (line_value c.args.q.now c.args.rows.now c.args.k) refl c.args.d.now c.args.held.now c.args.values.now c.args.sought.first c.args.sought.end c.args.sought.rank (is-kind c.is.ensures c.if-is.true)

pub returns-then-is-2 : goal.returns-then-is-2
returns-then-is-2 c = c.some_row.ensures (equal_by c.args.s c.value_of-v.result.now) (λ u b l q. search rules) ∙ satisfied-equality c.args.s (kind_at c.args.rows.now c.args.k) (pieces_at c.args.q.now c.args.rows.now c.args.lines c.args.k) (line_value c.args.q.now c.args.rows.now c.args.k) _ c.value_of-v.ensures c.args.d.now c.args.held.now c.args.values.now c.args.sought.first c.args.sought.end c.args.sought.rank (is-kind c.is-2.ensures c.if-is-2.true)

pub returns-then-is-3 : goal.returns-then-is-3
returns-then-is-3 c = c.some_ordered.ensures ∙ satisfied-least c.args.s (kind_at c.args.rows.now c.args.k) (pieces_at c.args.q.now c.args.rows.now c.args.lines c.args.k) (line_value c.args.q.now c.args.rows.now c.args.k) _ c.value_of-v.ensures c.args.d.now c.args.held.now c.args.values.now c.args.sought.first c.args.sought.end c.args.sought.rank (is-kind c.is-3.ensures c.if-is-3.true)

pub returns-then-is-4 : goal.returns-then-is-4
returns-then-is-4 c = c.some_ordered-then-is-4.ensures ∙ satisfied-most c.args.s (kind_at c.args.rows.now c.args.k) (pieces_at c.args.q.now c.args.rows.now c.args.lines c.args.k) (line_value c.args.q.now c.args.rows.now c.args.k) _ c.value_of-v.ensures c.args.d.now c.args.held.now c.args.values.now c.args.sought.first c.args.sought.end c.args.sought.rank (is-kind c.is-4.ensures c.if-is-4.true)

pub returns : goal.returns
returns c = c.some_row-2.ensures (contains text (pieces_at c.args.q.now c.args.rows.now c.args.lines c.args.k)) (λ u b l q. search rules) ∙ satisfied-pieces c.args.s (kind_at c.args.rows.now c.args.k) (pieces_at c.args.q.now c.args.rows.now c.args.lines c.args.k) (line_value c.args.q.now c.args.rows.now c.args.k) (line_value c.args.q.now c.args.rows.now c.args.k) refl c.args.d.now c.args.held.now c.args.values.now c.args.sought.first c.args.sought.end c.args.sought.rank (not-kind c.is-2.ensures c.if-is-2.false) (not-kind c.is-3.ensures c.if-is-3.false) (not-kind c.is-4.ensures c.if-is-4.false) (not-kind c.is.ensures c.if-is.false)
