use Rattle.std.proofs.Common.{sym, ◌∙◌, ◌≡◌, length, arith}
use Rattle.rules.specs.Value.{text}
use Rattle.rules.proofs.Laws.Substrings.{folded-length}
use Rattle.value_substring.specs.Laws.Pieces.{sought-on, sought-at, sought-end}
use Rattle.value_substring.proofs.seek.Goals as goal

pub returns-then-small-b : goal.returns-then-small-b
returns-then-small-b c =
    let A = c.args in
    let L = c.loop-i in
    sought-at A.b A.v.now A.from L.i L.invariant c.loop-i-test.true (sym c.small.ensures ∙ c.if-small-b.true)

pub loop-i-preserved : goal.loop-i-preserved
loop-i-preserved c =
    let A = c.args in
    let L = c.loop-i in
    sought-on A.b A.v.now A.from L.i L.invariant c.loop-i-test.true (λ e. c.if-small-b.false (c.small.ensures ∙ e))

pub returns : goal.returns
returns c =
    let A = c.args in
    let L = c.loop-i in
    let end : length A.v.now ≡ L.i = omega (arith, L.invariant.within, folded-length text A.v.now) in
    end ∙ sought-end A.b A.v.now A.from L.i L.invariant c.loop-i-test.false
