use native.Mathlib.Omega.{arith}
use mathlib.Core.Path.{ap₂, ◌∙◌}
use mathlib.Core.Bool.{◌&&◌}
use Rattle.access_set.specs.Member.{member}
use Rattle.access_set.specs.Laws.Sets.{member-meet}
use Rattle.tables.specs.Laws.World.{types-most}
use Rattle.access_may.specs.Laws.Granted.{type-granted}
use borrow.Author.Rules.{rules}
use Rattle.access_may.proofs.may_type.Goals as goal

pub naming-requires : goal.naming-requires
naming-requires c = ((types-most c.requires.1).0, c.requires.0)

pub about_type-requires : goal.about_type-requires
about_type-requires c = omega (arith, (types-most c.requires.1).1, c.requires.0)

pub returns : goal.returns
returns c = λ σ es d p book held w l k. type-granted σ es d p book held c.args.sets.now w c.args.q c.requires.0 c.args.e l c.args.rank k (member c.and.result) (λ j. member-meet _ _ _ c.and.ensures j ∙ ap₂ ◌&&◌ (c.naming.ensures j) (c.about_type.ensures j)) c.decided.result c.decided.ensures
