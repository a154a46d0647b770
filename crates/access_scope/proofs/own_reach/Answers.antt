use Prim.Native.Nat.{◌+◌, ◌*◌}
use mathlib.Core.Bool.{Bool, cond}
use mathlib.Core.Path.{sym, ap, ◌∙◌}
use Rattle.access_scope.specs.Laws.Scopes.{own-none, own_below, own_alone, own-apart}
use Rattle.access_scope.proofs.own_reach.Goals as goal

pub returns-then-o-eq0 : goal.returns-then-o-eq0
returns-then-o-eq0 c = let a = c.args in λ σ es d held h. own-none es a.below a.b a.o c.if-o-eq0.true

pub returns-then-climbs : goal.returns-then-climbs
returns-then-climbs c = let a = c.args in λ σ es d held h. ap (λ (t : Bool). cond t (2 * a.o + 1) 0) (sym c.if-climbs.true) ∙ own_below es a.below a.b a.o c.if-o-eq0.false _ c.if-below-eq1.true (c.climbs.ensures σ es d held h)

pub returns-then-below-eq1 : goal.returns-then-below-eq1
returns-then-below-eq1 c = let a = c.args in λ σ es d held h. ap (λ (t : Bool). cond t (2 * a.o + 1) 0) (sym c.if-climbs.false) ∙ own_below es a.below a.b a.o c.if-o-eq0.false _ c.if-below-eq1.true (c.climbs.ensures σ es d held h)

pub returns-then-o-b : goal.returns-then-o-b
returns-then-o-b c = let a = c.args in λ σ es d held h. own_alone es a.below a.b a.o c.if-o-eq0.false c.if-below-eq1.false c.if-o-b.true

pub returns : goal.returns
returns c = let a = c.args in λ σ es d held h. own-apart es a.below a.b a.o c.if-o-eq0.false c.if-below-eq1.false c.if-o-b.false
