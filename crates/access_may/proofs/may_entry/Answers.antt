use mathlib.Core.Path.{ap₂, ◌∙◌}
use mathlib.Core.Bool.{◌&&◌}
use Rattle.access_set.specs.Member.{member}
use Rattle.access_set.specs.Laws.Sets.{member-meet}
use Rattle.tables.specs.Laws.World.{entry-most}
use Rattle.access_may.specs.Laws.Decided.{row-member}
use Rattle.access_may.specs.Laws.Granted.{entry-granted}
use borrow.Author.Rules.{rules}
use Rattle.access_may.proofs.may_entry.Goals as goal

pub naming-requires : goal.naming-requires
naming-requires c = (entry-most c.requires.1, c.requires.0)

pub returns : goal.returns
returns c = λ σ es d p book held w l. entry-granted σ es d p book held c.args.sets.now w c.args.q c.requires.0 c.args.e l (member c.and.result) (λ j. member-meet _ _ _ c.and.ensures j ∙ ap₂ ◌&&◌ (c.naming.ensures j) (row-member _ _ _ c.row.ensures j)) c.decided.result c.decided.ensures
