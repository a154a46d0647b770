use mathlib.Core.Path.{refl, ◌∙◌}
use native.Mathlib.Omega.{arith}
use lib.ListN.{length-set}
use lib.Seq.{drop-set-lt}
use Rattle.access_scope.specs.Laws.Resolved.{resolved-none, resolved-on}
use Rattle.access_scope.proofs.reach_all.Goals as goal

pub loop-k-init : goal.loop-k-init
loop-k-init c = let a = c.args in (c.requires.1, refl, resolved-none a.book.now a.d.now a.p.now a.rights.now a.scopes.now a.q.now a.who a.reach.now)

pub loop-k-preserved : goal.loop-k-preserved
loop-k-preserved c = let a = c.args in let L = c.loop-k in (
  length-set L.reach L.k _ ∙ L.invariant.0,
  drop-set-lt a.count L.reach L.k _ c.loop-k-test.true ∙ L.invariant.1,
  resolved-on a.book.now a.d.now a.p.now a.rights.now a.scopes.now a.q.now a.who L.k L.reach _ _ _ (omega (arith, c.loop-k-test.true, L.invariant.0, c.requires.2)) L.invariant.2 c.own_number-o.ensures.1 c.scope_at.ensures c.reach_item.ensures,
)
