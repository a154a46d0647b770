use Rattle.directory_values.specs.ValueLine.{value_ruling}
use borrow.Author.Tests.{lt-ltb, le-ltb, not-true, not-false}
use mathlib.Core.Path.{sym, ◌∙◌}
use native.Mathlib.Omega.{arith}
use Rattle.directory_values.proofs.value_line.Goals as goal

pub returns-then-not-value_columns : goal.returns-then-not-value_columns
unfolding value_ruling
returns-then-not-value_columns c = λ ms ready. rw (sym c.value_columns.ensures ∙ not-true _ c.if-not-value_columns.true-raw)

pub returns-then-line-last : goal.returns-then-line-last
unfolding value_ruling
returns-then-line-last c = λ ms ready. rw (sym c.value_columns.ensures ∙ not-false _ c.if-not-value_columns.false-raw, lt-ltb _ _ c.if-line-last.true)

pub rank-rank-requires : goal.rank-rank-requires
rank-rank-requires c = c.requires.2 c.if-line-last.false

pub overflow_add-owner : goal.overflow_add-owner
overflow_add-owner c = omega (arith, c.requires.1)

pub ruled-requires : goal.ruled-requires
ruled-requires c = let g = c.requires.0 in record { all = g.all; ready = g.ready; within = g.within; low = omega (arith, c.requires.1) }

pub returns : goal.returns
unfolding value_ruling
returns c = λ ms ready. rw (sym c.value_columns.ensures ∙ not-false _ c.if-not-value_columns.false-raw, le-ltb _ _ c.if-line-last.false, ← c.rank-rank.ensures) (c.ruled.ensures ms ready)
