use mathlib.Core.Path.{ap, ap₂, ◌∙◌}
use mathlib.Core.Bool.{Bool, ◌&&◌, ◌||◌}
use Rattle.access_set.specs.Member.{member}
use Rattle.access_set.specs.Laws.Sets.{member-meet, member-join}
use Rattle.access_may.specs.Laws.Decided.{row-member}
use borrow.Author.Rules.{rules}
use Rattle.access_may.proofs.about_all.Goals as goal

pub returns : goal.returns
returns c = λ j. member-meet _ _ _ c.and.ensures j ∙ ap (λ (b : Bool). member c.args.asked j && b) (member-join _ _ _ c.or.ensures j ∙ ap₂ ◌||◌ (row-member _ _ _ c.row-3.ensures j) (member-meet _ _ _ c.and-typed.ensures j ∙ ap₂ ◌&&◌ (row-member _ _ _ c.row.ensures j) (row-member _ _ _ c.row-2.ensures j)))
