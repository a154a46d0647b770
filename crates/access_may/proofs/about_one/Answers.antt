use mathlib.Core.Path.{ap, ap₂, ◌∙◌}
use mathlib.Core.Bool.{Bool, ◌&&◌}
use Rattle.access_set.specs.Member.{member}
use Rattle.access_set.specs.Laws.Sets.{member-meet}
use Rattle.access_may.specs.Laws.Decided.{row-member}
use borrow.Author.Rules.{rules}
use Rattle.access_may.proofs.about_one.Goals as goal

pub returns : goal.returns
returns c = λ j. member-meet _ _ _ c.and-2.ensures j ∙ ap (λ (b : Bool). member c.args.asked j && b) (member-meet _ _ _ c.and.ensures j ∙ ap₂ ◌&&◌ (row-member _ _ _ c.row.ensures j) (row-member _ _ _ c.row-2.ensures j))
