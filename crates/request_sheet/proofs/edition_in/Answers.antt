-- By the operation, then by the column.
use borrow.Author.Tests.{eq-eqb, ne_eqb}
use Rattle.rules.specs.Request.{edition_of}
use Rattle.request_sheet.specs.Whole.{edition_in}
use Rattle.request_sheet.proofs.edition_in.Goals as goal

pub returns-then-op-ne-SEARCH : goal.returns-then-op-ne-SEARCH
unfolding edition_in
returns-then-op-ne-SEARCH c = rw (ne_eqb _ 4 c.if-op-ne-SEARCH.true)

pub returns-then-c-eq1 : goal.returns-then-c-eq1
unfolding edition_in edition_of
returns-then-c-eq1 c = rw (eq-eqb _ 4 c.if-op-ne-SEARCH.false, eq-eqb _ 1 c.if-c-eq1.true)

pub returns : goal.returns
unfolding edition_in edition_of
returns c = rw (eq-eqb _ 4 c.if-op-ne-SEARCH.false, ne_eqb _ 1 c.if-c-eq1.false)
