use borrow.Author.Tests.{le-leb, lt-leb, not-true, not-false}
use Rattle.directory_schema.specs.Types.{type_refusal}
use mathlib.Core.Path.{sym, ◌∙◌}
use Rattle.directory_schema.proofs.type_line.Goals as goal

pub returns-then-not-directory_columns : goal.returns-then-not-directory_columns
unfolding type_refusal
returns-then-not-directory_columns c = rw (sym c.directory_columns.ensures ∙ not-true _ c.if-not-directory_columns.true-raw)

pub returns-then-line-last : goal.returns-then-line-last
unfolding type_refusal
returns-then-line-last c = rw (sym c.directory_columns.ensures ∙ not-false _ c.if-not-directory_columns.false-raw, le-leb _ _ c.if-line-last.true)

pub returns-then-n-ge64 : goal.returns-then-n-ge64
unfolding type_refusal
returns-then-n-ge64 c = rw (sym c.directory_columns.ensures ∙ not-false _ c.if-not-directory_columns.false-raw, lt-leb _ _ c.if-line-last.false, le-leb _ _ c.if-n-ge64.true)

pub returns : goal.returns
unfolding type_refusal
returns c = rw (sym c.directory_columns.ensures ∙ not-false _ c.if-not-directory_columns.false-raw, lt-leb _ _ c.if-line-last.false, lt-leb _ _ c.if-n-ge64.false)
