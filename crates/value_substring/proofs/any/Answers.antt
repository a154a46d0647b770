use Prim.Native.Nat.{◌+◌, ◌-◌}
use mathlib.Core.Path.{sym, ◌∙◌}
use native.Mathlib.Omega.{arith}
use Rattle.value_substring.specs.Laws.Pieces.{seek-within, any-empty, any_found, any-short, any-first, any-on}
use Rattle.value_substring.proofs.any.Goals as goal

pub returns-then-p-eq0 : goal.returns-then-p-eq0
returns-then-p-eq0 c =
    let A = c.args in
    sym (any-empty A.p.now _ c.if-p-eq0.true)

pub returns-then-v-from : goal.returns-then-v-from
returns-then-v-from c =
    let A = c.args in
    sym (any-short A.v.now A.p.now A.from 0 c.if-v-from.true)

pub loop-i-init : goal.loop-i-init
loop-i-init c =
    let A = c.args in
    let B = c.small-b in
    let S = c.seek-i in (
      rw S.ensures (seek-within _ A.v.now A.from c.requires),
      omega (arith, S.ensures),
      any-first A.v.now A.p.now B.result (omega arith) B.ensures A.from S.result S.ensures,
    )

pub returns-then-stands : goal.returns-then-stands
returns-then-stands c =
    let A = c.args in
    let L = c.loop-i in
    sym (any_found A.v.now A.p.now L.i (L.i - A.from) (sym c.stands.ensures ∙ c.if-stands.true)) ∙ L.invariant.2

pub loop-i-preserved : goal.loop-i-preserved
loop-i-preserved c =
    let A = c.args in
    let B = c.small-b in
    let L = c.loop-i in
    let S = c.seek-i-in-loop-i in (
      rw S.ensures (seek-within _ A.v.now (L.i + 1) (omega arith)),
      omega (arith, S.ensures),
      any-on A.v.now A.p.now B.result (omega arith) B.ensures A.from L.i S.result L.invariant.1 (omega arith) (sym c.stands.ensures ∙ c.if-stands.false) S.ensures ∙ L.invariant.2,
    )

pub returns : goal.returns
returns c =
    let A = c.args in
    let L = c.loop-i in
    sym (any-short A.v.now A.p.now L.i (L.i - A.from) c.loop-i-test.false) ∙ L.invariant.2
