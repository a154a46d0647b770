use mathlib.Core.Path.{ap, ◌∙◌}
use mathlib.Core.Bool.{Bool, ◌&&◌, ◌||◌}
use native.Mathlib.Omega.{arith}
use Prim.Native.Nat.{◌+◌, ◌-◌}
use Rattle.access_set.specs.Member.{member}
use Rattle.tables.specs.Sets.{what_row, type_row, in_row}
use Rattle.access_may.specs.Laws.Granted.{value-granted}
use borrow.Author.Rules.{rules}
use Rattle.access_may.proofs.may_value.Goals as goal

pub returns : goal.returns
returns c = λ σ es d held w. value-granted σ es d c.args.p.now c.args.book.now held c.args.sets.now w c.args.q c.requires.2 c.args.e (omega (arith, c.requires.0, w.entries.count)) c.args.rank c.requires.1 c.args.v.now (member c.about_all-all.result) (member c.about_one-single.result) (λ j. c.about_all-all.ensures j ∙ ap (λ (b : Bool). b && (in_row c.args.sets.now (what_row + 2) j || in_row c.args.sets.now (type_row + c.args.rank) j && in_row c.args.sets.now (what_row + 4) j)) (c.naming-asked.ensures j)) (λ j. c.about_one-single.ensures j ∙ ap (λ (b : Bool). b && (in_row c.args.sets.now (type_row + c.args.rank) j && in_row c.args.sets.now (what_row + 5) j)) (c.naming-asked.ensures j)) c.decided_value.result c.decided_value.ensures
