-- By what was seen.
use borrow.Author.Tests.{eq-eqb, ne_eqb}
use Rattle.request_piece.proofs.piece_by.Goals as goal

pub returns-then-left-eq0 : goal.returns-then-left-eq0
returns-then-left-eq0 c = rw (c.in-Line.is, eq-eqb _ 0 c.if-left-eq0.true)

pub returns-else-left-eq0 : goal.returns-else-left-eq0
returns-else-left-eq0 c = rw (c.in-Line.is, ne_eqb _ 0 c.if-left-eq0.false) c.piece_of.ensures

pub returns-in-NotAllowed : goal.returns-in-NotAllowed
returns-in-NotAllowed c = rw c.in-NotAllowed.is

pub returns-in-Missing : goal.returns-in-Missing
returns-in-Missing c = rw c.in-Missing.is
