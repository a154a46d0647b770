-- By the place of the piece.
use native.Mathlib.Omega.{arith}
use borrow.Author.Tests.{eq-eqb, ne_eqb}
use Rattle.request_piece.proofs.in_place.Goals as goal

pub returns-in-0 : goal.returns-in-0
returns-in-0 c = rw (eq-eqb c.args.a 0 c.in-0.is)

pub returns-in-2 : goal.returns-in-2
returns-in-2 c = rw (ne_eqb c.args.a 0 (omega (arith, c.in-2.is)), eq-eqb c.args.a 2 c.in-2.is)

pub returns-in_default : goal.returns-in_default
returns-in_default c = rw (ne_eqb c.args.a 0 c.in_default.in_default-own.rest.0.1, ne_eqb c.args.a 2 c.in_default.in_default-own.rest.1)
