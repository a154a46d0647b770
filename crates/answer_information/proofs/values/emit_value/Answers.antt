use Rattle.rules.specs.Permission.{Read}
use Rattle.rules.specs.Decision.{of_value}
use Rattle.tables.specs.Held.{type_at}
use native.Mathlib.Omega.{arith}
use mathlib.Core.Path.{sym, ◌∙◌}
use Rattle.answer_information.specs.Laws.Values.{value_read_lem, value_not}
use Rattle.answer_information.specs.Laws.Rows.{granted-named}
use Rattle.answer_line.specs.Laws.Emit.{emits-length}
use Rattle.tables.specs.Book.{width, schema}
use Rattle.rules.specs.Directory.{name_at}
use Rattle.answer_information.proofs.values.emit_value.Goals as goal

pub may_value-requires : goal.may_value-requires
may_value-requires c = let P = c.requires in (P.2, P.3, omega arith, P.0)

pub emit-requires : goal.emit-requires
emit-requires c = let P = c.requires in let F = P.0.2.2.entries.fits in (omega (arith, F.narrow), F.wide, omega (arith, P.4, P.5))

pub returns-then-may_value : goal.returns-then-may_value
returns-then-may_value c = let P = c.requires in
    let a = c.args in
    let p = c.emit.ensures in (
      omega (arith, emits-length _ _ _ _ p, P.0.2.2.entries.fits.wide, P.4),
      omega arith,
      λ σ es d held W. value_read_lem (width a.book.now) a.out.now σ (name_at es a.e) (type_at (schema a.book.now) a.rank) a.v.now a.st
          (sym (granted-named σ es a.e P.1 (of_value (type_at (schema a.book.now) a.rank) a.v.now) Read) ∙ sym (c.may_value.ensures σ es d held W) ∙ c.if-may_value.true) p,
    )

pub returns : goal.returns
returns c = let P = c.requires in
    let a = c.args in (
      omega arith,
      omega arith,
      λ σ es d held W. value_not (width a.book.now) a.out.now σ (name_at es a.e) (type_at (schema a.book.now) a.rank) a.v.now a.st
          (sym (granted-named σ es a.e P.1 (of_value (type_at (schema a.book.now) a.rank) a.v.now) Read) ∙ sym (c.may_value.ensures σ es d held W) ∙ c.if-may_value.false),
    )
