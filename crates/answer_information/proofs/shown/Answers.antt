use Rattle.rules.specs.Directory.{name_at}
use Rattle.rules.specs.Permission.{Read}
use Rattle.rules.specs.Decision.{of_type}
use Rattle.tables.specs.Book.{schema}
use Rattle.tables.specs.Held.{type_at}
use mathlib.Core.Path.{sym, ◌∙◌}
use native.Mathlib.Omega.{arith}
use Rattle.tables.specs.Laws.World.{types-most}
use Rattle.tables.specs.Laws.Choice.{choice-types}
use Rattle.answer_information.specs.Laws.Runs.{shown-yes, shown-not}
use Rattle.answer_information.specs.Laws.Rows.{granted-named}
use Rattle.answer_information.proofs.shown.Goals as goal

pub chosen-requires : goal.chosen-requires
chosen-requires c = (types-most (choice-types c.requires.1)).1

pub may_type-requires : goal.may_type-requires
may_type-requires c = (omega arith, choice-types c.requires.1)

pub returns-then-chosen : goal.returns-then-chosen
returns-then-chosen c = let a = c.args in λ σ es d p book held s W C f l.
    shown-yes σ s (name_at es a.e) (type_at (schema book) a.rank) (sym (C.ranks a.rank l) ∙ sym c.chosen.ensures ∙ c.if-chosen.true) (c.may_type.ensures σ es d p book held W f l ∙ granted-named σ es a.e c.requires.0 (of_type (type_at (schema book) a.rank)) Read)

pub returns : goal.returns
returns c = let a = c.args in λ σ es d p book held s W C f l. shown-not σ s (name_at es a.e) (type_at (schema book) a.rank) (sym (C.ranks a.rank l) ∙ sym c.chosen.ensures ∙ c.if-chosen.false)
