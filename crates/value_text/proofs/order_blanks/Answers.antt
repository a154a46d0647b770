-- A text of blanks alone is one blank; others begin with a byte that is none.
use mathlib.Core.Path.{sym, ◌∙◌}
use native.Mathlib.Omega.{arith}
use Rattle.value_blank.specs.Laws.Blank.{skip-within}
use Rattle.value_text.specs.Laws.Walk.{blanks-both, blanks-first, blanks-second, blanks-none}
use Rattle.value_text.proofs.order_blanks.Goals as goal

pub returns-then-j-w : goal.returns-then-j-w
returns-then-j-w c =
    let A = c.args in
    let S = c.skip-i in
    let T = c.skip-j in
    sym (blanks-both A.v.now A.w.now S.result T.result S.ensures T.ensures c.if-i-v.true c.if-j-w.true)

pub bounds-w-j : goal.bounds-w-j
bounds-w-j c =
    let A = c.args in
    let S = c.skip-i in
    let T = c.skip-j in
    omega (arith, skip-within A.w.now 0 (omega arith), T.ensures)

pub returns-then-i-v : goal.returns-then-i-v
returns-then-i-v c =
    let A = c.args in
    let S = c.skip-i in
    let T = c.skip-j in
    c.apart.ensures ∙ sym (blanks-first A.v.now A.w.now S.result T.result S.ensures T.ensures c.if-i-v.true c.if-j-w.false _ c.small.ensures)

pub bounds-v-i : goal.bounds-v-i
bounds-v-i c =
    let A = c.args in
    let S = c.skip-i in
    let T = c.skip-j in
    omega (arith, skip-within A.v.now 0 (omega arith), S.ensures)

pub returns-then-j-w-2 : goal.returns-then-j-w-2
returns-then-j-w-2 c =
    let A = c.args in
    let S = c.skip-i in
    let T = c.skip-j in
    c.apart-then-j-w-2.ensures ∙ sym (blanks-second A.v.now A.w.now S.result T.result S.ensures T.ensures c.if-i-v.false c.if-j-w-2.true _ c.small-then-j-w-2.ensures)

pub order_from-requires : goal.order_from-requires
order_from-requires c =
    let A = c.args in
    let S = c.skip-i in
    let T = c.skip-j in
    (omega (arith, skip-within A.v.now 0 (omega arith), S.ensures), omega (arith, skip-within A.w.now 0 (omega arith), T.ensures))

pub returns : goal.returns
returns c =
    let A = c.args in
    let S = c.skip-i in
    let T = c.skip-j in
    c.order_from.ensures ∙ sym (blanks-none A.v.now A.w.now S.result T.result S.ensures T.ensures c.if-i-v.false c.if-j-w-2.false)
