use Rattle.std.proofs.Common.{sym, ◌∙◌, ◌≡◌, ◌*◌, ◌+◌, arith}
use borrow.Author.Tests.{not-false}
use Rattle.value_collation.specs.Laws.Compare.{shared-four}
use Rattle.value_collation.proofs.leap.Goals as goal

pub loop-q-preserved : goal.loop-q-preserved
loop-q-preserved c =
    let A = c.args in
    let L = c.loop-q in
    let next : 4 * (L.q + 1) ≡ 4 * L.q + 4 = omega arith in
    rw next
    (shared-four A.syntax A.v.now A.w.now A.n c.requires (4 * L.q) L.invariant (omega arith) (sym c.four.ensures ∙ not-false _ c.if-not-four.false-raw))
