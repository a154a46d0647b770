-- Any outcome but "no such object" has no name after it.
use mathlib.Core.Path.{◌∙◌}
use Rattle.answer_entry.specs.Laws.Opening.{withheld-refused}
use Rattle.answer_entry.proofs.withheld.Goals as goal

pub returns-in-NoSuchObject : goal.returns-in-NoSuchObject
returns-in-NoSuchObject c = rw c.in-NoSuchObject.is c.absent.ensures

pub returns-in_default : goal.returns-in_default
returns-in_default c = c.refused.ensures ∙ withheld-refused _ c.args.outcome _ c.in_default.not-NoSuchObject
