use Prim.Native.Nat.{ℕ}
use mathlib.Core.List.{List}
use mathlib.Core.Path.{sym, ap, ◌∙◌}
use Rattle.name.specs.Schema.{syntax_in}
use Rattle.directory_lookup.specs.Laws.Find.{child-unknown}
use Rattle.directory_lookup.proofs.find.child.Goals as goal

pub child_by-requires : goal.child_by-requires
child_by-requires c = (c.requires, sym (ap (λ (ks : List ℕ). syntax_in ks c.args.t) c.schema.ensures) ∙ sym c.syntax_of.ensures ∙ c.in-Some.is)

pub returns-in-Some : goal.returns-in-Some
returns-in-Some c = c.child_by.ensures

pub returns-in-None : goal.returns-in-None
returns-in-None c = (tt, λ σ es held h. child-unknown h c.args.parent c.args.t c.args.v.now (sym (ap (λ (ks : List ℕ). syntax_in ks c.args.t) c.schema.ensures) ∙ sym c.syntax_of.ensures ∙ c.in-None.is))
