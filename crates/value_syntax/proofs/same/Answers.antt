-- Text by its order. Other values of one length are equal where the beginning that they share is all of them.
use mathlib.Core.Path.{sym}
use Rattle.value_collation.specs.Laws.Compare.{same-common, same-never}
use Rattle.value_syntax.proofs.same.Goals as goal

pub returns-then-v-w : goal.returns-then-v-w
returns-then-v-w c =
    let A = c.args in
    sym (same-never A.syntax A.v.now A.w.now c.if-syntax-eq-TEXT.false c.if-v-w.true)

pub returns : goal.returns
returns c =
    let A = c.args in
    rw c.common.ensures (sym (same-common A.syntax A.v.now A.w.now c.if-syntax-eq-TEXT.false c.if-v-w.false))
