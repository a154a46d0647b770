use mathlib.Core.Path.{sym, ◌∙◌}
use Rattle.rules.specs.Places.{schema_of}
use Rattle.directory_lookup.specs.Laws.Names.{part_apart, part_by}
use Rattle.directory_lookup.proofs.names.same_part.Goals as goal

pub returns-then-a-b : goal.returns-then-a-b
returns-then-a-b c = let a = c.args in sym (part_apart (schema_of a.types.now) a.a a.b a.v.now a.u.now c.if-a-b.true)

pub returns : goal.returns
returns c = let a = c.args in c.equal.ensures ∙ sym (part_by (schema_of a.types.now) a.a a.b a.v.now a.u.now c.if-a-b.false)
