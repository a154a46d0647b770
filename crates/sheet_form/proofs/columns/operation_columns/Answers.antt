-- The rows are the forms of the kind, in their order.
use native.Mathlib.Omega.{arith}
use Rattle.rules.specs.Columns.{request_forms}
use Rattle.sheet_form.specs.Columns.{in_form_of}
use Rattle.sheet_form.specs.Laws.Columns.{two-forms}
use Rattle.sheet_form.proofs.columns.operation_columns.Goals as goal

pub returns : goal.returns
unfolding in_form_of request_forms
returns c = λ top. let A = c.args in rw (c.row.ensures, c.row-2.ensures) (two-forms A.line.a A.line.b A.line.c A.line.length (omega arith) (omega arith) (omega arith) (omega arith) _ _)
