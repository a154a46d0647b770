use mathlib.Core.Path.{refl, sym, ◌∙◌}
use lib.Dec.{eqb}
use borrow.Author.Tests.{eq-eqb, ne_eqb}
use Rattle.tables.specs.Held.{rank_at}
use Rattle.filter_item.specs.Rows.{held_row}
use Rattle.filter_item.specs.Laws.Rows.{some-here, some-on, some_end}
use Rattle.filter_item.proofs.rows.holds.Goals as goal

pub loop-i-init : goal.loop-i-init
unfolding held_row
loop-i-init c = refl

pub returns-then-held-i : goal.returns-then-held-i
returns-then-held-i c = sym (some-here (λ j. eqb (rank_at c.args.held.now j) c.args.sought.rank) c.loop-i.i c.args.sought.end c.loop-i-test.true (eq-eqb _ _ c.if-held-i.true)) ∙ c.loop-i.invariant

pub loop-i-preserved : goal.loop-i-preserved
loop-i-preserved c = sym (some-on (λ j. eqb (rank_at c.args.held.now j) c.args.sought.rank) c.loop-i.i c.args.sought.end c.loop-i-test.true (ne_eqb _ _ c.if-held-i.false)) ∙ c.loop-i.invariant

pub returns : goal.returns
returns c = sym (some_end (λ j. eqb (rank_at c.args.held.now j) c.args.sought.rank) c.loop-i.i c.args.sought.end c.loop-i-test.false) ∙ c.loop-i.invariant
