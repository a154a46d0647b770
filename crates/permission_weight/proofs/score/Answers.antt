use borrow.Author.Tests.{eq-eqb, ne_eqb}
use Rattle.permission_weight.specs.Weight.{score_of}
use borrow.Author.Rules.{rules}
use Rattle.permission_weight.proofs.score.Goals as goal

pub returns-then-grants-eq1 : goal.returns-then-grants-eq1
unfolding score_of
returns-then-grants-eq1 c = rw (eq-eqb _ _ c.if-grants-eq1.true)

pub returns : goal.returns
unfolding score_of
returns c = rw (ne_eqb _ _ c.if-grants-eq1.false)
