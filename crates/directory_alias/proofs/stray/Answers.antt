-- The tests one after the other.
use borrow.Author.Tests.{lt-ltb, le-ltb, not-true, not-false}
use mathlib.Core.Path.{sym, ◌∙◌}
use Rattle.directory_alias.specs.Target.{stray_number}
use Rattle.directory_alias.proofs.stray.Goals as goal

pub returns-then-not-directory_columns : goal.returns-then-not-directory_columns
unfolding stray_number
returns-then-not-directory_columns c = rw (sym c.directory_columns.ensures ∙ not-true _ c.if-not-directory_columns.true-raw)

pub returns-then-is : goal.returns-then-is
unfolding stray_number
returns-then-is c = rw (sym c.directory_columns.ensures ∙ not-false _ c.if-not-directory_columns.false-raw, sym c.is.ensures ∙ c.if-is.true)

pub returns-then-not-is : goal.returns-then-not-is
unfolding stray_number
returns-then-not-is c = rw (sym c.directory_columns.ensures ∙ not-false _ c.if-not-directory_columns.false-raw, sym c.is.ensures ∙ c.if-is.false, sym c.is-2.ensures ∙ not-true _ c.if-not-is.true-raw)

pub returns-then-number-line : goal.returns-then-number-line
unfolding stray_number
returns-then-number-line c = rw (sym c.directory_columns.ensures ∙ not-false _ c.if-not-directory_columns.false-raw, sym c.is.ensures ∙ c.if-is.false, sym c.is-2.ensures ∙ not-false _ c.if-not-is.false-raw, lt-ltb _ _ c.if-number-line.true)

pub returns-then-lacks : goal.returns-then-lacks
unfolding stray_number
returns-then-lacks c = rw (sym c.directory_columns.ensures ∙ not-false _ c.if-not-directory_columns.false-raw, sym c.is.ensures ∙ c.if-is.false, sym c.is-2.ensures ∙ not-false _ c.if-not-is.false-raw, le-ltb _ _ c.if-number-line.false, c.if-lacks.true)

pub returns : goal.returns
unfolding stray_number
returns c = rw (sym c.directory_columns.ensures ∙ not-false _ c.if-not-directory_columns.false-raw, sym c.is.ensures ∙ c.if-is.false, sym c.is-2.ensures ∙ not-false _ c.if-not-is.false-raw, le-ltb _ _ c.if-number-line.false, c.if-lacks.false)
