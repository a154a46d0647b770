use Rattle.std.proofs.lemmas.Result.{err_from_is_err_and}
use Rattle.rules.proofs.Laws.Refusals.{refusal-some}
use Rattle.directory_entry.specs.EntryLine.{entry_ruling}
use Rattle.directory_entry.specs.Laws.EntryLine.{place-low}
use borrow.Author.Tests.{ne_eqb, not-true, not-false}
use mathlib.Core.Path.{sym, ◌∙◌}
use native.Mathlib.Omega.{arith}
use Rattle.directory_entry.proofs.entry_line.Goals as goal

pub returns-then-not-directory_columns : goal.returns-then-not-directory_columns
unfolding entry_ruling
returns-then-not-directory_columns c = λ ms ready. rw (sym c.directory_columns.ensures ∙ not-true _ c.if-not-directory_columns.true-raw)

pub returns-then-not-is : goal.returns-then-not-is
unfolding entry_ruling
returns-then-not-is c = λ ms ready. rw (sym c.directory_columns.ensures ∙ not-false _ c.if-not-directory_columns.false-raw, sym c.is.ensures ∙ not-true _ c.if-not-is.true-raw)

pub misplaced-requires : goal.misplaced-requires
misplaced-requires c = (c.requires.1, c.requires.2)

pub returns-in_err-misplaced : goal.returns-in_err-misplaced
unfolding entry_ruling
returns-in_err-misplaced c = λ ms ready. let p = err_from_is_err_and c.from_residual.result c.from_residual.ensures.1 in rw (p.1, p.2, sym c.directory_columns.ensures ∙ not-false _ c.if-not-directory_columns.false-raw, sym c.is.ensures ∙ not-false _ c.if-not-is.false-raw, ← c.in_err-misplaced.ensures, ne_eqb _ _ (refusal-some c.in_err-misplaced.field-0.0))

pub ruled-requires : goal.ruled-requires
ruled-requires c = let g = c.requires.0 in record { all = g.all; ready = g.ready; within = g.within; low = omega (arith, place-low c.args.depths.now c.args.count c.args.lacks c.args.line.a (sym c.in_ok-misplaced.ensures), c.requires.1) }

pub returns : goal.returns
unfolding entry_ruling
returns c = λ ms ready. rw (sym c.directory_columns.ensures ∙ not-false _ c.if-not-directory_columns.false-raw, sym c.is.ensures ∙ not-false _ c.if-not-is.false-raw, ← c.in_ok-misplaced.ensures, ← c.rank-rank.ensures) (c.ruled.ensures ms ready)
