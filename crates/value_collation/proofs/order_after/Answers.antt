-- Where the beginning that two values share ends, one of them ends or they differ.
use mathlib.Core.Path.{sym}
use native.Mathlib.Omega.{arith}
use Rattle.value_collation.specs.Laws.Compare.{within, order-equal, order-less, order-greater, order_below, order-above}
use Rattle.value_collation.proofs.order_after.Goals as goal

pub returns-then-i-w : goal.returns-then-i-w
returns-then-i-w c =
    let A = c.args in
    let K = c.common-i in
    sym (order-equal A.syntax A.v.now A.w.now K.result K.ensures c.if-i-v.true c.if-i-w.true)

pub returns-then-i-v : goal.returns-then-i-v
returns-then-i-v c =
    let A = c.args in
    let K = c.common-i in
    sym (order-less A.syntax A.v.now A.w.now K.result K.ensures c.if-i-v.true c.if-i-w.false)

pub returns-then-i-w-2 : goal.returns-then-i-w-2
returns-then-i-w-2 c =
    let A = c.args in
    let K = c.common-i in
    sym (order-greater A.syntax A.v.now A.w.now K.result K.ensures c.if-i-v.false c.if-i-w-2.true)

pub bounds-v-i : goal.bounds-v-i
bounds-v-i c =
    let A = c.args in
    let K = c.common-i in
    omega (arith, within A.syntax A.v.now A.w.now K.result K.ensures)

pub bounds-w-i : goal.bounds-w-i
bounds-w-i c =
    let A = c.args in
    let K = c.common-i in
    omega (arith, within A.syntax A.v.now A.w.now K.result K.ensures)

pub returns-then-folded : goal.returns-then-folded
returns-then-folded c =
    let A = c.args in
    let K = c.common-i in
    let h = within A.syntax A.v.now A.w.now K.result K.ensures in
    sym (order_below A.syntax A.v.now A.w.now K.result K.ensures (omega (arith, h)) (omega (arith, h)) (rw (c.folded.ensures, c.folded-2.ensures) at c.if-folded.true))

pub returns : goal.returns
returns c =
    let A = c.args in
    let K = c.common-i in
    let h = within A.syntax A.v.now A.w.now K.result K.ensures in
    sym (order-above A.syntax A.v.now A.w.now K.result K.ensures (omega (arith, h)) (omega (arith, h)) (rw (c.folded.ensures, c.folded-2.ensures) at c.if-folded.false))
