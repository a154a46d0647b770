use mathlib.Core.Path.{sym, ap, ◌∙◌}
use mathlib.Core.Bool.{Bool, ◌&&◌}
use Rattle.filter_lines.specs.Lines.{kind_at, line_value, pieces_at}
use Rattle.filter_item.specs.Items.{defined_by}
use Rattle.filter_item.proofs.item.decidable.Goals as goal

pub defined-requires : goal.defined-requires
defined-requires c = (c.requires.1, c.requires.2)

pub returns-then-in_word : goal.returns-then-in_word
returns-then-in_word c = c.defined.ensures ∙ ap (λ (b : Bool). b && defined_by c.args.s (kind_at c.args.rows.now c.args.k) (pieces_at c.args.q.now c.args.rows.now c.args.lines c.args.k) (line_value c.args.q.now c.args.rows.now c.args.k)) (sym c.if-in_word.true ∙ c.in_word.ensures)

pub returns : goal.returns
returns c = ap (λ (b : Bool). b && defined_by c.args.s (kind_at c.args.rows.now c.args.k) (pieces_at c.args.q.now c.args.rows.now c.args.lines c.args.k) (line_value c.args.q.now c.args.rows.now c.args.k)) (sym c.if-in_word.false ∙ c.in_word.ensures)
