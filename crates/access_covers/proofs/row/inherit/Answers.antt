use Rattle.access_covers.specs.Laws.Row.{inherited-rows}
use Rattle.access_covers.proofs.row.inherit.Goals as goal

pub returns : goal.returns
returns c =
    let o = c.or-c in
    let z = c.row-3 in
    let s = c.or-s in
    let y = c.row-2 in
    let x = c.row in
    let A = c.args in
    inherited-rows A.e A.above A.sets.now x.result y.result s.result z.result o.result _ _ x.ensures y.ensures s.ensures z.ensures o.ensures c.store.ensures c.store-2.ensures
