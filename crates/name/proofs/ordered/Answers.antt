use mathlib.Core.Path.{sym, ◌∙◌}
use Rattle.name.specs.Laws.Schema.{ordered_at, ordered-none}
use Rattle.name.proofs.ordered.Goals as goal

pub returns-in-Some : goal.returns-in-Some
returns-in-Some c =
    let a = c.args in
    c.ordered.ensures ∙ sym (ordered_at a.schema.now a.t c.in-Some.s (sym c.syntax_of.ensures ∙ c.in-Some.is))

pub returns-in-None : goal.returns-in-None
returns-in-None c =
    let a = c.args in
    sym (ordered-none a.schema.now a.t (sym c.syntax_of.ensures ∙ c.in-None.is))
