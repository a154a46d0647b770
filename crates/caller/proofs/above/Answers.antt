-- By whether there is a limit.
use borrow.Author.Tests.{eq-eqb, ne_eqb}
use Rattle.rules.specs.Serve as Serve
use Rattle.caller.proofs.above.Goals as goal

pub returns-then-limits-eq0 : goal.returns-then-limits-eq0
unfolding Serve.above
returns-then-limits-eq0 c = rw (eq-eqb _ 0 c.if-limits-eq0.true)

pub returns : goal.returns
unfolding Serve.above
returns c = rw (ne_eqb _ 0 c.if-limits-eq0.false)
