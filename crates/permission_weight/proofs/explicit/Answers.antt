-- By the two tests.
use borrow.Author.Tests.{eq-eqb, ne_eqb}
use Rattle.permission_weight.specs.Weight.{explicit_of}
use Rattle.permission_weight.proofs.explicit.Goals as goal

pub returns-then-what-eq-ONE_TYPE : goal.returns-then-what-eq-ONE_TYPE
unfolding explicit_of
returns-then-what-eq-ONE_TYPE c = rw (eq-eqb _ 3 c.if-what-eq-ONE_TYPE.true)

pub returns-then-what-eq-ONE_VALUE : goal.returns-then-what-eq-ONE_VALUE
unfolding explicit_of
returns-then-what-eq-ONE_VALUE c = rw (ne_eqb _ 3 c.if-what-eq-ONE_TYPE.false, eq-eqb _ 5 c.if-what-eq-ONE_VALUE.true)

pub returns : goal.returns
unfolding explicit_of
returns c = rw (ne_eqb _ 3 c.if-what-eq-ONE_TYPE.false, ne_eqb _ 5 c.if-what-eq-ONE_VALUE.false)
