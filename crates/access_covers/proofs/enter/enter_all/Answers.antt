use mathlib.Core.Path.{refl}
use Rattle.access_covers.specs.Enter.{all_entered}
use Rattle.access_covers.specs.Laws.Enter.{entered-more}
use Rattle.access_covers.proofs.enter.enter_all.Goals as goal

pub loop-p-init : goal.loop-p-init
unfolding all_entered
loop-p-init c = refl

pub loop-p-preserved : goal.loop-p-preserved
loop-p-preserved c =
    let A = c.args in
    let L = c.loop-p in
    entered-more A.reach.now A.order.now A.sets.now L.sets _ L.p L.invariant c.enter.ensures
