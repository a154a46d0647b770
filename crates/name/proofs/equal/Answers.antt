use mathlib.Core.Path.{sym, ◌∙◌}
use Rattle.name.specs.Laws.Schema.{equal-at, equal-none}
use Rattle.name.proofs.equal.Goals as goal

pub returns-in-Some : goal.returns-in-Some
returns-in-Some c =
    let a = c.args in
    c.equal_by.ensures ∙ sym (equal-at a.schema.now a.t c.in-Some.s (sym c.syntax_of.ensures ∙ c.in-Some.is) a.v.now a.u.now)

pub returns-in-None : goal.returns-in-None
returns-in-None c =
    let a = c.args in
    sym (equal-none a.schema.now a.t (sym c.syntax_of.ensures ∙ c.in-None.is) a.v.now a.u.now)
