use mathlib.Core.Path.{sym, ◌∙◌}
use Rattle.name.specs.Laws.Schema.{known_at, known-none}
use Rattle.name.proofs.known.Goals as goal

pub returns-in-Some : goal.returns-in-Some
returns-in-Some c = sym (known_at c.args.schema.now c.args.t c.in-Some.field-0 (sym c.syntax_of.ensures ∙ c.in-Some.is))

pub returns-in-None : goal.returns-in-None
returns-in-None c = sym (known-none c.args.schema.now c.args.t (sym c.syntax_of.ensures ∙ c.in-None.is))
