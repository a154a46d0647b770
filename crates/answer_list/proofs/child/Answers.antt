use Prim.Native.Nat.{ℕ, ◌+◌, ◌≤◌}
use mathlib.Core.Path.{sym, ap, ◌∙◌}
use mathlib.Core.Bool.{false}
use native.Mathlib.Omega.{arith}
use lib.ListN.{length}
use native.Mathlib.Numerals.{add-one}
use Rattle.tables.specs.Laws.World.{known-entry, inside, parent_is}
use Rattle.answer_entry.specs.Returned.{returnable_at}
use Rattle.answer_list.specs.Laws.Hits.{listed-other, listed-child}
use Rattle.answer_list.proofs.child.Goals as goal

pub returns-then-book-k : goal.returns-then-book-k
returns-then-book-k c = λ σ es d p held w. listed-other σ es c.args.b c.args.k (λ e. c.if-book-k.true (parent_is w.entries c.args.k c.requires.0 ∙ e))

pub returnable-requires : goal.returnable-requires
returnable-requires c = known-entry c.requires.2.3 _ (omega (arith, c.requires.0))

pub returns : goal.returns
returns c = λ σ es d p held w. let l : c.args.k + 1 ≤ length es = omega (arith, inside w.entries c.args.k c.requires.0) in c.returnable.ensures σ es d p c.args.book.now held w l ∙ ap (λ (e : ℕ). returnable_at σ es e false) (add-one c.args.k) ∙ listed-child σ es c.args.b c.args.k (sym (parent_is w.entries c.args.k c.requires.0) ∙ c.if-book-k.false)
