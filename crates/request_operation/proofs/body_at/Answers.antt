-- By the operation.
use mathlib.Core.Path.{refl}
use borrow.Author.Tests.{ne_eqb}
use Rattle.request_operation.specs.Operations.{body_at}
use Rattle.request_operation.proofs.body_at.Goals as goal

pub returns-in-1 : goal.returns-in-1
unfolding body_at
returns-in-1 c = rw c.in-1.is c.read_at.ensures

pub returns-in-2 : goal.returns-in-2
unfolding body_at
returns-in-2 c = rw c.in-2.is c.compare_at.ensures

pub returns-in-3 : goal.returns-in-3
unfolding body_at
returns-in-3 c = rw c.in-3.is (refl, c.list_at.ensures)

pub returns-in_default : goal.returns-in_default
unfolding body_at
returns-in_default c = let r = c.in_default.in_default-own.rest in rw (ne_eqb _ 1 r.0.0.1, ne_eqb _ 2 r.0.1, ne_eqb _ 3 r.1) c.search_at.ensures
