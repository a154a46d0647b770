-- The rows are the forms of the kind, in their order.
use native.Mathlib.Omega.{arith}
use Rattle.rules.specs.Columns.{permission_forms}
use Rattle.sheet_form.specs.Columns.{in_form_of}
use Rattle.sheet_form.specs.Laws.Columns.{four-forms}
use Rattle.sheet_form.proofs.columns.user_class_columns.Goals as goal

pub returns : goal.returns
unfolding in_form_of permission_forms
returns c = λ top. let A = c.args in rw (c.row.ensures, c.row-2.ensures, c.row-3.ensures, c.row-4.ensures) (four-forms A.line.a A.line.b A.line.c A.line.length (omega arith) (omega arith) (omega arith) (omega arith) _ _ _ _)
