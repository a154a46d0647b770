use mathlib.Core.Path.{ap₂, ◌∙◌}
use native.Mathlib.Omega.{arith}
use mathlib.Core.Bool.{◌&&◌}
use Rattle.sheet_kind.specs.Laws.Kinds.{is-kind, not-kind}
use Rattle.filter_lines.specs.Lines.{kind_at, line_value, pieces_at}
use Rattle.filter_item.specs.Laws.Items.{defined-equality, defined-least, defined-most, defined-present, defined-pieces}
use Rattle.filter_item.proofs.item.defined.Goals as goal

pub value_of-v-requires : goal.value_of-v-requires
value_of-v-requires c = let h = c.requires.0 in let l = c.requires.1 in (omega (arith, l, h.room), h.begins c.args.k l, h.within c.args.k l)

pub returns-then-is : goal.returns-then-is
returns-then-is c = c.fits.ensures ∙ defined-equality c.args.s (kind_at c.args.rows.now c.args.k) (pieces_at c.args.q.now c.args.rows.now c.args.lines c.args.k) (line_value c.args.q.now c.args.rows.now c.args.k) _ c.value_of-v.ensures (is-kind c.is.ensures c.if-is.true)

pub returns-then-is-2 : goal.returns-then-is-2
returns-then-is-2 c = ap₂ ◌&&◌ c.ordered.ensures c.fits-then-is-2.ensures ∙ defined-least c.args.s (kind_at c.args.rows.now c.args.k) (pieces_at c.args.q.now c.args.rows.now c.args.lines c.args.k) (line_value c.args.q.now c.args.rows.now c.args.k) _ c.value_of-v.ensures (is-kind c.is-2.ensures c.if-is-2.true)

pub returns-then-is-3 : goal.returns-then-is-3
returns-then-is-3 c = ap₂ ◌&&◌ c.ordered-then-is-3.ensures c.fits-then-is-3.ensures ∙ defined-most c.args.s (kind_at c.args.rows.now c.args.k) (pieces_at c.args.q.now c.args.rows.now c.args.lines c.args.k) (line_value c.args.q.now c.args.rows.now c.args.k) _ c.value_of-v.ensures (is-kind c.is-3.ensures c.if-is-3.true)

pub returns-then-is-4 : goal.returns-then-is-4
returns-then-is-4 c = defined-present c.args.s (kind_at c.args.rows.now c.args.k) (pieces_at c.args.q.now c.args.rows.now c.args.lines c.args.k) (line_value c.args.q.now c.args.rows.now c.args.k) _ c.value_of-v.ensures (is-kind c.is-4.ensures c.if-is-4.true)

pub returns : goal.returns
returns c = ap₂ ◌&&◌ c.searchable.ensures c.pieces_fit.ensures ∙ defined-pieces c.args.s (kind_at c.args.rows.now c.args.k) (pieces_at c.args.q.now c.args.rows.now c.args.lines c.args.k) (line_value c.args.q.now c.args.rows.now c.args.k) _ c.value_of-v.ensures (not-kind c.is.ensures c.if-is.false) (not-kind c.is-2.ensures c.if-is-2.false) (not-kind c.is-3.ensures c.if-is-3.false) (not-kind c.is-4.ensures c.if-is-4.false)
