use mathlib.Core.Path.{sym, ap, ◌∙◌}
use Rattle.rules.specs.Name.{Schema}
use Rattle.tables.specs.Book.{width}
use Rattle.access_scope.specs.Scopes.{asked_by}
use Rattle.access_scope.specs.Laws.Scopes.{item-asked, item-unasked}
use Rattle.access_scope.proofs.reach_item.Goals as goal

pub returns-then-asked : goal.returns-then-asked
returns-then-asked c = let a = c.args in λ σ es held h. c.reach_base.ensures σ es held h
    ∙ item-asked σ.schema (width a.book.now) a.p.now a.x a.q.now a.who es a.o (ap (λ (S : Schema). asked_by S (width a.book.now) a.p.now a.x a.q.now a.who) h.schema-is ∙ sym c.asked.ensures ∙ c.if-asked.true)

pub returns : goal.returns
returns c = let a = c.args in λ σ es held h. item-unasked σ.schema (width a.book.now) a.p.now a.x a.q.now a.who es a.o (ap (λ (S : Schema). asked_by S (width a.book.now) a.p.now a.x a.q.now a.who) h.schema-is ∙ sym c.asked.ensures ∙ c.if-asked.false)
