-- Where the beginning that two texts share ends, both are in one state.
use mathlib.Core.Path.{sym, ◌∙◌}
use native.Mathlib.Omega.{arith}
use Rattle.value_text.specs.Laws.Walk.{shared-within, shared-all, shared-apart}
use Rattle.value_text.proofs.order_after.Goals as goal

pub returns-then-i-w : goal.returns-then-i-w
returns-then-i-w c =
    let A = c.args in
    let K = c.common-i in
    sym (shared-all A.v.now A.w.now K.result K.ensures c.if-i-v.true c.if-i-w.true)

pub bounds-v-i : goal.bounds-v-i
bounds-v-i c =
    let A = c.args in
    let K = c.common-i in
    omega (arith, shared-within A.v.now A.w.now K.result K.ensures)

pub bounds-w-i : goal.bounds-w-i
bounds-w-i c =
    let A = c.args in
    let K = c.common-i in
    omega (arith, shared-within A.v.now A.w.now K.result K.ensures)

pub bounds-v-i-2 : goal.bounds-v-i-2
bounds-v-i-2 c =
    let A = c.args in
    let K = c.common-i in
    omega (arith, shared-within A.v.now A.w.now K.result K.ensures)

pub bounds-w-i-2 : goal.bounds-w-i-2
bounds-w-i-2 c =
    let A = c.args in
    let K = c.common-i in
    omega (arith, shared-within A.v.now A.w.now K.result K.ensures)

pub returns : goal.returns
returns c =
    let A = c.args in
    let K = c.common-i in
    c.apart.ensures ∙ sym (shared-apart A.v.now A.w.now K.result K.ensures c.if-i-v.false c.if-i-w-2.false c.if-v-i-eq-BLANK.false c.if-w-i-eq-BLANK.false _ _ c.small.ensures c.small-2.ensures)
