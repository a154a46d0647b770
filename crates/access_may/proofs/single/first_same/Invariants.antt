use mathlib.Core.Path.{sym, ◌∙◌}
use mathlib.Core.Bool.{◌&&◌}
use Prim.Native.Nat.{◌-◌}
use Rattle.access_set.specs.Member.{member}
use native.Mathlib.Omega.{arith}
use Rattle.access_may.specs.Single.{agrees_at}
use Rattle.access_may.specs.Laws.Decided.{Left, left-start, left_end, left-member, left-found, left-later, left-more}
use borrow.Author.Rules.{rules}
use Rattle.access_may.proofs.single.first_same.Given as goal

abbrev pub invariant-loop-i : goal.invariant-loop-i
invariant-loop-i l = Left (λ j. member l.initial.rest j && agrees_at l.sets l.p l.syntax l.digest l.v j) (agrees_at l.sets l.p l.syntax l.digest l.v) l.rest l.i

abbrev pub decreases-loop-i : goal.decreases-loop-i
decreases-loop-i l = 256 - l.i
