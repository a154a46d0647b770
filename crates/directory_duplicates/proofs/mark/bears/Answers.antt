use borrow.Author.Tests.{eq-eqb, ne_eqb}
use Rattle.rules.specs.Value.{same}
use Rattle.rules.specs.Sheet.{Bytes}
use mathlib.Core.Path.{ap, ◌∙◌}
use Rattle.directory_duplicates.proofs.mark.bears.Goals as goal

pub returns-then-m-label : goal.returns-then-m-label
returns-then-m-label c = rw (ne_eqb _ _ c.if-m-label.true)

pub returns : goal.returns
returns c = rw (eq-eqb _ _ c.if-m-label.false) (c.same.ensures ∙ ap (λ (u : Bytes). same c.args.syntax u c.args.v.now) c.part.ensures)
