use Rattle.std.proofs.Common.{sym, ◌∙◌, ◌≡◌, ◌+◌, ◌*◌, arith}
use borrow.Author.Tests.{not-false}
use Rattle.value_substring.specs.Laws.Pieces.{sought-start, sought-four}
use Rattle.value_substring.proofs.leap.Goals as goal

pub loop-q-init : goal.loop-q-init
loop-q-init c =
    let A = c.args in
    let first : A.from + 4 * 0 ≡ A.from = omega arith in
    rw first (sought-start A.b A.v.now A.from c.requires)

pub loop-q-preserved : goal.loop-q-preserved
loop-q-preserved c =
    let A = c.args in
    let L = c.loop-q in
    let next : A.from + 4 * (L.q + 1) ≡ A.from + 4 * L.q + 4 = omega arith in
    rw next (sought-four A.b A.v.now A.from (A.from + 4 * L.q) L.invariant (omega arith) (sym c.absent.ensures ∙ not-false _ c.if-not-absent.false-raw))
