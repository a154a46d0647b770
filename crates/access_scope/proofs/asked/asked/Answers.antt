use mathlib.Core.Path.{sym, ◌∙◌}
use Rattle.rules.specs.Places.{schema_of}
use Rattle.tables.specs.Book.{schema, width}
use Rattle.access_scope.specs.Laws.Scopes.{asked_by_lem, unasked}
use Rattle.access_scope.proofs.asked.asked.Goals as goal

pub returns-then-level_fits : goal.returns-then-level_fits
returns-then-level_fits c = let a = c.args in c.who_fits.ensures ∙ asked_by_lem (schema_of (schema a.book.now)) (width a.book.now) a.p.now a.x a.q.now a.who (sym c.level_fits.ensures ∙ c.if-level_fits.true)

pub returns : goal.returns
returns c = let a = c.args in unasked (schema_of (schema a.book.now)) (width a.book.now) a.p.now a.x a.q.now a.who (sym c.level_fits.ensures ∙ c.if-level_fits.false)
