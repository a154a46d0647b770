use mathlib.Core.Path.{sym, ◌∙◌}
use native.Mathlib.Omega.{arith}
use Rattle.directory_lookup.specs.Laws.Find.{sought-start, sought-here, sought-on, sought-end}
use Rattle.directory_lookup.proofs.find.child_by.Goals as goal

pub loop-i-init : goal.loop-i-init
loop-i-init c = sought-start _ _ _ _ _ _

pub is_child-requires : goal.is_child-requires
is_child-requires c = (c.requires.0, c.loop-i-test.true)

pub returns-then-is_child : goal.returns-then-is_child
returns-then-is_child c = (omega (arith, c.loop-i-test.true), λ σ es held h. sought-here _ _ _ _ _ _ c.loop-i.i c.loop-i.invariant c.loop-i-test.true (sym c.is_child.ensures ∙ c.if-is_child.true) σ es held h c.requires.1)

pub loop-i-preserved : goal.loop-i-preserved
loop-i-preserved c = sought-on _ _ _ _ _ _ c.loop-i.i c.loop-i.invariant c.loop-i-test.true (sym c.is_child.ensures ∙ c.if-is_child.false)

pub returns : goal.returns
returns c = (tt, λ σ es held h. sought-end _ _ _ _ _ _ c.loop-i.i c.loop-i.invariant c.loop-i-test.false σ es held h c.requires.1)
