use borrow.Author.Tests.{eq-eqb, ne_eqb}
use Rattle.access_scope.specs.Scopes.{level_by}
use Rattle.access_scope.proofs.asked.level_fits.Goals as goal

pub returns-then-grants-eq1 : goal.returns-then-grants-eq1
returns-then-grants-eq1 c = unfold level_by in rw (eq-eqb _ _ c.if-grants-eq1.true)

pub returns : goal.returns
returns c = unfold level_by in rw (ne_eqb _ _ c.if-grants-eq1.false)
