use Prim.Native.Nat.{◌+◌}
use mathlib.Core.Path.{sym, ◌∙◌}
use native.Mathlib.Omega.{arith}
use Rattle.filter_lines.specs.Laws.Pieces.{skip-within, skip-beyond}
use Rattle.filter_tree.specs.Tree.{after_by}
use borrow.Author.Rules.{rules}
use Rattle.filter_tree.proofs.tree.after_item.Goals as goal

pub overflow_mul-kind : goal.overflow_mul-kind
overflow_mul-kind c = omega (arith, c.requires.0.2.placed.room, c.requires.1)

pub offset_bounds-rows-k : goal.offset_bounds-rows-k
offset_bounds-rows-k c = search (rules, c.requires.0.2.placed.room, c.requires.1)

pub bounds-rows-k : goal.bounds-rows-k
bounds-rows-k c = omega (arith, c.requires.0.2.placed.room, c.requires.1)

pub overflow_add-next : goal.overflow_add-next
overflow_add-next c = omega (arith, c.requires.0.2.placed.room, c.requires.1)

pub returns-then-is : goal.returns-then-is
returns-then-is c = (omega (arith, c.requires.1), λ w q h. unfold after_by in rw (sym c.is.ensures ∙ c.if-is.true))

pub returns-then-is-2 : goal.returns-then-is-2
returns-then-is-2 c = (omega (arith, c.requires.1), λ w q h. unfold after_by in rw (sym c.is.ensures ∙ c.if-is.false, sym c.is-2.ensures ∙ c.if-is-2.true))

pub returns-then-is-3 : goal.returns-then-is-3
returns-then-is-3 c = (omega (arith, c.requires.1), λ w q h. unfold after_by in rw (sym c.is.ensures ∙ c.if-is.false, sym c.is-2.ensures ∙ c.if-is-2.false, sym c.is-3.ensures ∙ c.if-is-3.true))

pub returns-then-is-4 : goal.returns-then-is-4
returns-then-is-4 c = (omega (arith, c.requires.1), λ w q h. unfold after_by in rw (sym c.is.ensures ∙ c.if-is.false, sym c.is-2.ensures ∙ c.if-is-2.false, sym c.is-3.ensures ∙ c.if-is-3.false, sym c.is-4.ensures ∙ c.if-is-4.true))

pub overflow_mul-pieces : goal.overflow_mul-pieces
overflow_mul-pieces c = omega (arith, c.requires.0.2.placed.room, c.requires.1)

pub overflow_add-pieces : goal.overflow_add-pieces
overflow_add-pieces c = omega (arith, c.requires.0.2.placed.room, c.requires.1)

pub offset_bounds-rows-k-2 : goal.offset_bounds-rows-k-2
offset_bounds-rows-k-2 c = search (rules, c.requires.0.2.placed.room, c.requires.1)

pub bounds-rows-k-2 : goal.bounds-rows-k-2
bounds-rows-k-2 c = omega (arith, c.requires.0.2.placed.room, c.requires.1)

pub overflow_sub-lines : goal.overflow_sub-lines
overflow_sub-lines c = omega (arith, c.requires.1)

pub returns-then-lines-next : goal.returns-then-lines-next
returns-then-lines-next c = (omega arith, λ w q h. unfold after_by in rw (sym c.is.ensures ∙ c.if-is.false, sym c.is-2.ensures ∙ c.if-is-2.false, sym c.is-3.ensures ∙ c.if-is-3.false, sym c.is-4.ensures ∙ c.if-is-4.false) (sym (skip-beyond h _ (c.args.k + 1) (omega (arith, c.requires.1)) (omega (arith, c.if-lines-next.true, c.requires.1)))))

pub overflow_add-result : goal.overflow_add-result
overflow_add-result c = omega (arith, c.if-lines-next.false, c.requires.0.2.placed.room, c.requires.1)

pub returns : goal.returns
returns c = (omega (arith, c.if-lines-next.false, c.requires.1), λ w q h. unfold after_by in rw (sym c.is.ensures ∙ c.if-is.false, sym c.is-2.ensures ∙ c.if-is-2.false, sym c.is-3.ensures ∙ c.if-is-3.false, sym c.is-4.ensures ∙ c.if-is-4.false) (sym (skip-within h _ (c.args.k + 1) (omega (arith, c.if-lines-next.false, c.requires.1)))))
