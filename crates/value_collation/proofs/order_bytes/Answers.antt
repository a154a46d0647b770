-- First bytes that differ tell the order; else it is told by what stands after the shared beginning.
use mathlib.Core.Path.{sym}
use Rattle.value_collation.specs.Laws.Compare.{first_below, first_above}
use Rattle.value_collation.proofs.order_bytes.Goals as goal

pub returns-then-a-b : goal.returns-then-a-b
returns-then-a-b c =
    let A = c.args in
    let hv = c.if-v-gt0.true in
    let hw = c.if-w-gt0.true in
    sym (first_below A.syntax A.v.now A.w.now hv hw (rw (c.folded-a.ensures, c.folded-b.ensures) at c.if-a-b.true))

pub returns-then-b-a : goal.returns-then-b-a
returns-then-b-a c =
    let A = c.args in
    let hv = c.if-v-gt0.true in
    let hw = c.if-w-gt0.true in
    sym (first_above A.syntax A.v.now A.w.now hv hw (rw (c.folded-a.ensures, c.folded-b.ensures) at c.if-b-a.true))
