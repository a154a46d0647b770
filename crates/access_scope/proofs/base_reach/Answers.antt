use borrow.Author.Tests.{eq-eqb, ne_eqb}
use Rattle.tables.specs.Numbers.{base_reach}
use Rattle.access_scope.proofs.base_reach.Goals as goal

pub returns-then-below-eq1 : goal.returns-then-below-eq1
returns-then-below-eq1 c = unfold base_reach in rw (eq-eqb _ _ c.if-below-eq1.true)

pub returns-then-b-eq0 : goal.returns-then-b-eq0
returns-then-b-eq0 c = unfold base_reach in rw (ne_eqb _ _ c.if-below-eq1.false, eq-eqb _ _ c.if-b-eq0.true)

pub returns : goal.returns
returns c = unfold base_reach in rw (ne_eqb _ _ c.if-below-eq1.false, ne_eqb _ _ c.if-b-eq0.false)
