-- The one form of its kind.
use mathlib.Core.Path.{◌≡◌}
use native.Mathlib.Omega.{arith}
use Rattle.rules.specs.Columns.{directory_forms}
use Rattle.sheet_form.specs.Columns.{in_form_of}
use Rattle.sheet_form.specs.Laws.Columns.{one_form}
use Rattle.sheet_form.proofs.columns.value_columns.Goals as goal

pub returns : goal.returns
unfolding in_form_of directory_forms
returns c =
    let A = c.args in
    let k : A.line.kind ≡ 3 = c.requires in
    rw (c.row.ensures, k)
    (one_form A.line.a A.line.b A.line.c A.line.length (omega arith) (omega arith) (omega arith) (omega arith) _)
