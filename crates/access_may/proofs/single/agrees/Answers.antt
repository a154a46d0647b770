use Rattle.access_may.specs.Laws.Single.{agrees-apart, agrees_bytes}
use mathlib.Core.Path.{sym, ◌∙◌}
use native.Mathlib.Omega.{arith}
use borrow.Author.Rules.{rules}
use Rattle.access_may.proofs.single.agrees.Goals as goal

pub returns-then-sets-i : goal.returns-then-sets-i
returns-then-sets-i c = sym (agrees-apart c.args.sets.now c.args.p.now c.args.syntax c.args.digest c.args.v.now c.args.i c.if-sets-i.true)

pub overflow_add-from-2 : goal.overflow_add-from-2
overflow_add-from-2 c = omega (arith, c.requires.1 c.args.i c.requires.0)

pub slice_bounds-equal_by-end : goal.slice_bounds-equal_by-end
slice_bounds-equal_by-end c = omega (arith, c.requires.1 c.args.i c.requires.0)

pub returns : goal.returns
returns c = c.equal_by.ensures ∙ sym (agrees_bytes c.args.sets.now c.args.p.now c.args.syntax c.args.digest c.args.v.now c.args.i c.if-sets-i.false)
