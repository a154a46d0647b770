-- A kind of the sheet has its row; any other kind is the number of none of the forms.
use mathlib.Core.Path.{◌≡◌, sym, ◌∙◌}
use native.Mathlib.Omega.{arith}
use Rattle.rules.specs.Columns.{directory_forms}
use Rattle.sheet_kind.specs.Laws.Kinds.{is-kind}
use Rattle.sheet_form.specs.Columns.{in_form_of}
use Rattle.sheet_form.specs.Laws.Columns.{one_form}
use Rattle.sheet_form.proofs.columns.directory_columns.Goals as goal

pub returns-then-is : goal.returns-then-is
unfolding in_form_of directory_forms
returns-then-is c =
    let A = c.args in
    let k : A.line.kind ≡ 3 = is-kind c.is.ensures c.if-is.true in
    rw (c.row.ensures, k)
    (one_form A.line.a A.line.b A.line.c A.line.length (omega arith) (omega arith) (omega arith) (omega arith) _)

pub returns-then-is-2 : goal.returns-then-is-2
unfolding in_form_of directory_forms
returns-then-is-2 c =
    let A = c.args in
    let k : A.line.kind ≡ 2 = is-kind c.is-2.ensures c.if-is-2.true in
    rw (c.row-then-is-2.ensures, k)
    (one_form A.line.a A.line.b A.line.c A.line.length (omega arith) (omega arith) (omega arith) (omega arith) _)

pub returns-then-is-3 : goal.returns-then-is-3
unfolding in_form_of directory_forms
returns-then-is-3 c =
    let A = c.args in
    let k : A.line.kind ≡ 1 = is-kind c.is-3.ensures c.if-is-3.true in
    rw (c.row-then-is-3.ensures, k)
    (one_form A.line.a A.line.b A.line.c A.line.length (omega arith) (omega arith) (omega arith) (omega arith) _)

pub returns-then-is-4 : goal.returns-then-is-4
unfolding in_form_of directory_forms
returns-then-is-4 c =
    let A = c.args in
    let k : A.line.kind ≡ 36 = is-kind c.is-4.ensures c.if-is-4.true in
    rw (c.row-then-is-4.ensures, k)
    (one_form A.line.a A.line.b A.line.c A.line.length (omega arith) (omega arith) (omega arith) (omega arith) _)

pub returns-then-is-5 : goal.returns-then-is-5
unfolding in_form_of directory_forms
returns-then-is-5 c =
    let A = c.args in
    let k : A.line.kind ≡ 9 = is-kind c.is-5.ensures c.if-is-5.true in
    rw (c.row-then-is-5.ensures, k)
    (one_form A.line.a A.line.b A.line.c A.line.length (omega arith) (omega arith) (omega arith) (omega arith) _)

pub returns : goal.returns
unfolding in_form_of directory_forms
returns c =
    rw (sym c.is-5.ensures ∙ c.if-is-5.false, sym c.is-4.ensures ∙ c.if-is-4.false, sym c.is-3.ensures ∙ c.if-is-3.false, sym c.is-2.ensures ∙ c.if-is-2.false, sym c.is.ensures ∙ c.if-is.false)
