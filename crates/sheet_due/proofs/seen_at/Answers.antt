-- By the line that was taken, then by its columns.
use mathlib.Core.Path.{sym, ◌∙◌}
use Rattle.sheet_due.specs.Lines.{seen_at}
use Rattle.sheet_due.proofs.seen_at.Goals as goal

pub returns-then-request_columns : goal.returns-then-request_columns
unfolding seen_at
returns-then-request_columns c = rw (sym c.taken_at.ensures ∙ c.in-Line.is, sym c.request_columns.ensures ∙ c.if-request_columns.true)

pub returns-else-request_columns : goal.returns-else-request_columns
unfolding seen_at
returns-else-request_columns c = rw (sym c.taken_at.ensures ∙ c.in-Line.is, sym c.request_columns.ensures ∙ c.if-request_columns.false)

pub returns-in-NotInForm : goal.returns-in-NotInForm
unfolding seen_at
returns-in-NotInForm c = rw (sym c.taken_at.ensures ∙ c.in-NotInForm.is)

pub returns-in-End : goal.returns-in-End
unfolding seen_at
returns-in-End c = rw (sym c.taken_at.ensures ∙ c.in-End.is)
