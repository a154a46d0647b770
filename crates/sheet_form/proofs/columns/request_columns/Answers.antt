-- A kind of the sheet has its row; any other kind is the number of none of the forms.
use Prim.Native.Nat.{ℕ}
use mathlib.Core.Path.{◌≡◌, refl, sym, ap, subst, ◌∙◌}
use mathlib.Core.Bool.{false, not}
use mathlib.Core.List.{List, [], ◌∷◌}
use native.Mathlib.Omega.{arith}
use lib.Dec.{T, eqb}
use mir.Val.{has_key}
use types.Run.{OneOf, miss}
use denote.Enum.Declared.{tag_of}
use borrow.Author.Tests.{ne_eqb}
use Rattle.rules.specs.Columns.{request_forms}
use Rattle.sheet_kind.specs.declared.Kind.{Kind}
use Rattle.sheet_kind.specs.Kinds.{kind_of}
use Rattle.sheet_kind.specs.Laws.Kinds.{kind-is}
use Rattle.sheet_kind.specs.contracts.Kind.{the_type}
use Rattle.sheet_form.specs.Columns.{in_form_of}
use Rattle.sheet_form.specs.Laws.Columns.{one_form}
use Rattle.sheet_form.proofs.columns.request_columns.Goals as goal

abbrev others : List ℕ
others = 0 ∷ 1 ∷ 2 ∷ 3 ∷ 4 ∷ 5 ∷ 6 ∷ 7 ∷ 25 ∷ 26 ∷ 27 ∷ 28 ∷ 29 ∷ 30 ∷ 31 ∷ 32 ∷ []

other : (c : goal.In_default) (n : ℕ) → T (not (has_key others (tag_of the_type (kind_of n)))) → eqb c.args.line.kind n ≡ false
other c n t = ne_eqb _ n (λ e. miss others (tag_of the_type (kind_of n)) t (subst (λ (x : Kind). OneOf others (tag_of the_type x)) (c.kind_of.ensures ∙ ap kind_of e) c.in_default.in_default-own.keys18))

pub returns-in-NamePart : goal.returns-in-NamePart
unfolding in_form_of request_forms
returns-in-NamePart c = let A = c.args in rw (c.row.ensures, kind-is A.line.kind refl (sym c.kind_of.ensures ∙ c.in-NamePart.is)) (one_form A.line.a A.line.b A.line.c A.line.length (omega arith) (omega arith) (omega arith) (omega arith) _)

pub returns-in-Requester : goal.returns-in-Requester
unfolding in_form_of request_forms
returns-in-Requester c = let A = c.args in rw (c.row-in-Requester.ensures, kind-is A.line.kind refl (sym c.kind_of.ensures ∙ c.in-Requester.is)) (one_form A.line.a A.line.b A.line.c A.line.length (omega arith) (omega arith) (omega arith) (omega arith) _)

pub returns-in-Operation : goal.returns-in-Operation
returns-in-Operation c = let A = c.args in c.operation_columns.ensures A.top ∙ rw (kind-is A.line.kind refl (sym c.kind_of.ensures ∙ c.in-Operation.is))

pub returns-in-Selection : goal.returns-in-Selection
returns-in-Selection c = let A = c.args in c.selection_columns.ensures A.top ∙ rw (kind-is A.line.kind refl (sym c.kind_of.ensures ∙ c.in-Selection.is))

pub returns-in-SelectedType : goal.returns-in-SelectedType
unfolding in_form_of request_forms
returns-in-SelectedType c = let A = c.args in rw (c.row-in-SelectedType.ensures, kind-is A.line.kind refl (sym c.kind_of.ensures ∙ c.in-SelectedType.is)) (one_form A.line.a A.line.b A.line.c A.line.length (omega arith) (omega arith) (omega arith) (omega arith) _)

pub returns-in-Assertion : goal.returns-in-Assertion
unfolding in_form_of request_forms
returns-in-Assertion c = let A = c.args in rw (c.row-in-Assertion.ensures, kind-is A.line.kind refl (sym c.kind_of.ensures ∙ c.in-Assertion.is)) (one_form A.line.a A.line.b A.line.c A.line.length (omega arith) (omega arith) (omega arith) (omega arith) _)

pub returns-in-Subset : goal.returns-in-Subset
unfolding in_form_of request_forms
returns-in-Subset c = let A = c.args in rw (c.row-in-Subset.ensures, kind-is A.line.kind refl (sym c.kind_of.ensures ∙ c.in-Subset.is)) (one_form A.line.a A.line.b A.line.c A.line.length (omega arith) (omega arith) (omega arith) (omega arith) _)

pub returns-in-Ordering : goal.returns-in-Ordering
unfolding in_form_of request_forms
returns-in-Ordering c = let A = c.args in rw (c.row-in-Ordering.ensures, kind-is A.line.kind refl (sym c.kind_of.ensures ∙ c.in-Ordering.is)) (one_form A.line.a A.line.b A.line.c A.line.length (omega arith) (omega arith) (omega arith) (omega arith) _)

pub returns-in-And : goal.returns-in-And
unfolding in_form_of request_forms
returns-in-And c = let A = c.args in rw (c.row-in-And.ensures, kind-is A.line.kind refl (sym c.kind_of.ensures ∙ c.in-And.is)) (one_form A.line.a A.line.b A.line.c A.line.length (omega arith) (omega arith) (omega arith) (omega arith) _)

pub returns-in-Or : goal.returns-in-Or
unfolding in_form_of request_forms
returns-in-Or c = let A = c.args in rw (c.row-in-Or.ensures, kind-is A.line.kind refl (sym c.kind_of.ensures ∙ c.in-Or.is)) (one_form A.line.a A.line.b A.line.c A.line.length (omega arith) (omega arith) (omega arith) (omega arith) _)

pub returns-in-Not : goal.returns-in-Not
unfolding in_form_of request_forms
returns-in-Not c = let A = c.args in rw (c.row-in-Not.ensures, kind-is A.line.kind refl (sym c.kind_of.ensures ∙ c.in-Not.is)) (one_form A.line.a A.line.b A.line.c A.line.length (omega arith) (omega arith) (omega arith) (omega arith) _)

pub returns-in-Equality : goal.returns-in-Equality
unfolding in_form_of request_forms
returns-in-Equality c = let A = c.args in rw (c.row-in-Equality.ensures, kind-is A.line.kind refl (sym c.kind_of.ensures ∙ c.in-Equality.is)) (one_form A.line.a A.line.b A.line.c A.line.length (omega arith) (omega arith) (omega arith) (omega arith) _)

pub returns-in-AtLeast : goal.returns-in-AtLeast
unfolding in_form_of request_forms
returns-in-AtLeast c = let A = c.args in rw (c.row-in-AtLeast.ensures, kind-is A.line.kind refl (sym c.kind_of.ensures ∙ c.in-AtLeast.is)) (one_form A.line.a A.line.b A.line.c A.line.length (omega arith) (omega arith) (omega arith) (omega arith) _)

pub returns-in-AtMost : goal.returns-in-AtMost
unfolding in_form_of request_forms
returns-in-AtMost c = let A = c.args in rw (c.row-in-AtMost.ensures, kind-is A.line.kind refl (sym c.kind_of.ensures ∙ c.in-AtMost.is)) (one_form A.line.a A.line.b A.line.c A.line.length (omega arith) (omega arith) (omega arith) (omega arith) _)

pub returns-in-Present : goal.returns-in-Present
unfolding in_form_of request_forms
returns-in-Present c = let A = c.args in rw (c.row-in-Present.ensures, kind-is A.line.kind refl (sym c.kind_of.ensures ∙ c.in-Present.is)) (one_form A.line.a A.line.b A.line.c A.line.length (omega arith) (omega arith) (omega arith) (omega arith) _)

pub returns-in-Substrings : goal.returns-in-Substrings
unfolding in_form_of request_forms
returns-in-Substrings c = let A = c.args in rw (c.row-in-Substrings.ensures, kind-is A.line.kind refl (sym c.kind_of.ensures ∙ c.in-Substrings.is)) (one_form A.line.a A.line.b A.line.c A.line.length (omega arith) (omega arith) (omega arith) (omega arith) _)

pub returns-in-Piece : goal.returns-in-Piece
unfolding in_form_of request_forms
returns-in-Piece c = let A = c.args in rw (c.row-in-Piece.ensures, kind-is A.line.kind refl (sym c.kind_of.ensures ∙ c.in-Piece.is)) (one_form A.line.a A.line.b A.line.c A.line.length (omega arith) (omega arith) (omega arith) (omega arith) _)

pub returns-in_default : goal.returns-in_default
unfolding in_form_of request_forms kind_of
returns-in_default c = rw (other c 9 tt, other c 10 tt, other c 11 tt, other c 12 tt, other c 13 tt, other c 14 tt, other c 15 tt, other c 16 tt, other c 20 tt, other c 21 tt, other c 22 tt, other c 23 tt, other c 24 tt, other c 25 tt, other c 26 tt, other c 27 tt, other c 28 tt)
