use Rattle.answer_entry.specs.Returned.{limited_plan}
use borrow.Author.Tests.{eq-eqb, ne_eqb, lt-ltb, le-ltb}
use Rattle.answer_entry.proofs.limited.Goals as goal

pub returns-then-limit-eq0 : goal.returns-then-limit-eq0
unfolding limited_plan
returns-then-limit-eq0 c = rw (c.success.ensures, eq-eqb _ _ c.if-limit-eq0.true)

pub returns-then-limit-count : goal.returns-then-limit-count
unfolding limited_plan
returns-then-limit-count c = rw (c.success-then-limit-count.ensures, ne_eqb _ _ c.if-limit-eq0.false, lt-ltb _ _ c.if-limit-count.true)

pub returns : goal.returns
unfolding limited_plan
returns c = rw (c.success-2.ensures, ne_eqb _ _ c.if-limit-eq0.false, le-ltb _ _ c.if-limit-count.false)
