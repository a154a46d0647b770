-- A kind of the sheet has its row; any other kind is the number of none of the forms.
use mathlib.Core.Path.{refl, sym, ◌∙◌}
use native.Mathlib.Omega.{arith}
use Rattle.rules.specs.Columns.{permission_forms}
use Rattle.sheet_kind.specs.Kinds.{kind_of}
use Rattle.sheet_kind.specs.Laws.Kinds.{kind-is}
use Rattle.sheet_form.specs.Columns.{in_form_of}
use Rattle.sheet_form.specs.Laws.Columns.{one_form}
use borrow.Author.Rules.{rules}
use Rattle.sheet_form.proofs.columns.permission_columns.Goals as goal

pub returns-in-Item : goal.returns-in-Item
unfolding in_form_of permission_forms
returns-in-Item c = let A = c.args in rw (c.row.ensures, kind-is A.line.kind refl (sym c.kind_of.ensures ∙ c.in-Item.is)) (one_form A.line.a A.line.b A.line.c A.line.length (omega arith) (omega arith) (omega arith) (omega arith) _)

pub returns-in-Base : goal.returns-in-Base
unfolding in_form_of permission_forms
returns-in-Base c = let A = c.args in rw (c.row-in-Base.ensures, kind-is A.line.kind refl (sym c.kind_of.ensures ∙ c.in-Base.is)) (one_form A.line.a A.line.b A.line.c A.line.length (omega arith) (omega arith) (omega arith) (omega arith) _)

pub returns-in-UserClass : goal.returns-in-UserClass
returns-in-UserClass c = let A = c.args in c.user_class_columns.ensures A.top ∙ rw (kind-is A.line.kind refl (sym c.kind_of.ensures ∙ c.in-UserClass.is))

pub returns-in-ProtectedItem : goal.returns-in-ProtectedItem
returns-in-ProtectedItem c = let A = c.args in c.protected_item_columns.ensures ∙ rw (kind-is A.line.kind refl (sym c.kind_of.ensures ∙ c.in-ProtectedItem.is))

pub returns-in-Permissions : goal.returns-in-Permissions
unfolding in_form_of permission_forms
returns-in-Permissions c = let A = c.args in rw (c.row-in-Permissions.ensures, kind-is A.line.kind refl (sym c.kind_of.ensures ∙ c.in-Permissions.is)) (one_form A.line.a A.line.b A.line.c A.line.length (omega arith) (omega arith) (omega arith) (omega arith) _)

pub returns-in-NamePart : goal.returns-in-NamePart
unfolding in_form_of permission_forms
returns-in-NamePart c = let A = c.args in rw (c.row-in-NamePart.ensures, kind-is A.line.kind refl (sym c.kind_of.ensures ∙ c.in-NamePart.is)) (one_form A.line.a A.line.b A.line.c A.line.length (omega arith) (omega arith) (omega arith) (omega arith) _)

pub returns-in_default : goal.returns-in_default
unfolding in_form_of permission_forms kind_of
returns-in_default c = search rules
