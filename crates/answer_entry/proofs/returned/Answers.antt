use Rattle.answer_entry.specs.Returned.{returned_plan}
use borrow.Author.Tests.{eq-eqb, ne_eqb}
use Rattle.answer_entry.proofs.returned.Goals as goal

pub returns-then-disclosed : goal.returns-then-disclosed
unfolding returned_plan
returns-then-disclosed c = rw (c.limited.ensures, c.if-disclosed.true)

pub returns-then-count-eq0 : goal.returns-then-count-eq0
unfolding returned_plan
returns-then-count-eq0 c = rw (c.absent.ensures, c.if-disclosed.false, eq-eqb _ _ c.if-count-eq0.true)

pub returns : goal.returns
unfolding returned_plan
returns c = rw (c.limited-2.ensures, c.if-disclosed.false, ne_eqb _ _ c.if-count-eq0.false)
