use Rattle.std.proofs.Common.{sym, ◌∙◌, ◌≡◌, arith, rules}
use borrow.Author.Tests.{not-true, not-false}
use Rattle.value_collation.specs.Laws.Compare.{shared-on, shared-off, shared-end}
use Rattle.value_collation.proofs.common.Goals as goal

pub returns-then-not-alike : goal.returns-then-not-alike
returns-then-not-alike c =
    let A = c.args in
    let L = c.loop-i in
    shared-off A.syntax A.v.now A.w.now c.min-n.result (search rules) L.i L.invariant c.loop-i-test.true (sym c.alike.ensures ∙ not-true _ c.if-not-alike.true-raw)

pub loop-i-preserved : goal.loop-i-preserved
loop-i-preserved c =
    let A = c.args in
    let L = c.loop-i in
    shared-on A.syntax A.v.now A.w.now c.min-n.result (search rules) L.i L.invariant c.loop-i-test.true (sym c.alike.ensures ∙ not-false _ c.if-not-alike.false-raw)

pub returns : goal.returns
returns c =
    let A = c.args in
    let n = c.min-n.result in
    let i = c.loop-i.i in
    let end : n ≡ i = omega (arith, c.loop-i.invariant.within) in
    end ∙ shared-end A.syntax A.v.now A.w.now n (search rules) i c.loop-i.invariant c.loop-i-test.false
