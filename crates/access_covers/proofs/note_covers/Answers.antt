use mathlib.Core.Path.{refl}
use native.Mathlib.Omega.{arith}
use Rattle.access_covers.specs.Noted.{covers_to}
use Rattle.access_covers.specs.Laws.Inherit.{covers_more}
use Rattle.access_covers.specs.Laws.Covers.{covers-whole}
use Rattle.access_covers.proofs.note_covers.Goals as goal

pub loop-k-init : goal.loop-k-init
unfolding covers_to
loop-k-init c = refl

pub loop-k-preserved : goal.loop-k-preserved
loop-k-preserved c =
    let A = c.args in
    let L = c.loop-k in
    covers_more A.parents.now _ L.sets _ L.k L.invariant c.inherit.ensures

pub returns : goal.returns
returns c =
    let A = c.args in
    let L = c.loop-k in
    covers-whole A.reach.now A.order.now A.parents.now A.sets.now _ L.sets L.k (omega arith) c.loop-k-test.false c.enter_all.ensures L.invariant
