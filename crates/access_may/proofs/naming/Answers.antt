use mathlib.Core.Path.{ap₂, ◌∙◌}
use mathlib.Core.Bool.{◌&&◌}
use Rattle.access_set.specs.Laws.Sets.{member-meet}
use Rattle.access_may.specs.Laws.Decided.{row-member}
use borrow.Author.Rules.{rules}
use Rattle.access_may.proofs.naming.Goals as goal

pub returns : goal.returns
returns c = λ j. member-meet _ _ _ c.and.ensures j ∙ ap₂ ◌&&◌ (row-member _ _ _ c.row.ensures j) (row-member _ _ _ c.row-2.ensures j)
