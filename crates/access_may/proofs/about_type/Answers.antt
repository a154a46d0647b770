use mathlib.Core.Path.{ap₂, ◌∙◌}
use mathlib.Core.Bool.{◌&&◌, ◌||◌}
use Rattle.access_set.specs.Laws.Sets.{member-meet, member-join}
use Rattle.access_may.specs.Laws.Decided.{row-member}
use borrow.Author.Rules.{rules}
use Rattle.access_may.proofs.about_type.Goals as goal

pub returns : goal.returns
returns c = λ j. member-join _ _ _ c.or-2.ensures j ∙ ap₂ ◌||◌ (row-member _ _ _ c.row-3.ensures j) (member-join _ _ _ c.or.ensures j ∙ ap₂ ◌||◌ (row-member _ _ _ c.row-4.ensures j) (member-meet _ _ _ c.and-one.ensures j ∙ ap₂ ◌&&◌ (row-member _ _ _ c.row.ensures j) (row-member _ _ _ c.row-2.ensures j)))
