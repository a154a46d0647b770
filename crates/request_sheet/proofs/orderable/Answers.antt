-- By the type, then by its syntax.
use mathlib.Core.Path.{sym, ◌∙◌}
use borrow.Author.Tests.{eq-eqb, ne_eqb}
use Rattle.request_sheet.specs.Whole.{orderable_by}
use Rattle.request_sheet.proofs.orderable.Goals as goal

pub returns-then-asked-eq0 : goal.returns-then-asked-eq0
unfolding orderable_by
returns-then-asked-eq0 c = rw (eq-eqb _ 0 c.if-asked-eq0.true)

pub returns-then-ordered : goal.returns-then-ordered
unfolding orderable_by
returns-then-ordered c = rw (ne_eqb _ 0 c.if-asked-eq0.false, sym c.ordered.ensures ∙ c.if-ordered.true)

pub returns : goal.returns
unfolding orderable_by
returns c = rw (ne_eqb _ 0 c.if-asked-eq0.false, sym c.ordered.ensures ∙ c.if-ordered.false)
