-- By the kind, then by the place.
use mathlib.Core.Path.{sym, ◌∙◌}
use borrow.Author.Tests.{not-true, not-false}
use Rattle.request_piece.proofs.piece_of.Goals as goal

pub returns-then-not-is : goal.returns-then-not-is
returns-then-not-is c = rw (sym c.is.ensures ∙ not-true _ c.if-not-is.true-raw)

pub returns-then-in_place : goal.returns-then-in_place
returns-then-in_place c = rw (sym c.is.ensures ∙ not-false _ c.if-not-is.false-raw, sym c.in_place.ensures ∙ c.if-in_place.true)

pub returns-else-in_place : goal.returns-else-in_place
returns-else-in_place c = rw (sym c.is.ensures ∙ not-false _ c.if-not-is.false-raw, sym c.in_place.ensures ∙ c.if-in_place.false)
