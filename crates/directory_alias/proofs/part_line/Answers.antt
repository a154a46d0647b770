-- A line that is due, then its value.
use borrow.Author.Tests.{ne_eqb, not-true, not-false}
use mathlib.Core.Path.{sym, ◌∙◌}
use Rattle.std.proofs.lemmas.Result.{err_from_is_err_and}
use Rattle.rules.proofs.Laws.Refusals.{refusal-some}
use Rattle.directory_alias.specs.Target.{part_number}
use Rattle.directory_alias.proofs.part_line.Goals as goal

pub returns-in_err-stray : goal.returns-in_err-stray
unfolding part_number
returns-in_err-stray c = let p = err_from_is_err_and c.from_residual.result c.from_residual.ensures.1 in rw (p.1, p.2, ← c.in_err-stray.ensures, ne_eqb _ _ (refusal-some c.in_err-stray.field-0.0))

pub returns-then-not-allowed : goal.returns-then-not-allowed
unfolding part_number
returns-then-not-allowed c = rw (← c.in_ok-stray.ensures, ← c.bytes.ensures, sym c.allowed.ensures ∙ not-true _ c.if-not-allowed.true-raw)

pub returns : goal.returns
unfolding part_number
returns c = rw (← c.in_ok-stray.ensures, ← c.bytes.ensures, sym c.allowed.ensures ∙ not-false _ c.if-not-allowed.false-raw)
