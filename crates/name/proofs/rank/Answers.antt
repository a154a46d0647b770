use Prim.Native.Nat.{ℕ, ◌/◌}
use mathlib.Core.Path.{◌≡◌, ap, ◌∙◌}
use native.Mathlib.Omega.{arith}
use lib.ListN.{get_or}
use Rattle.name.specs.Schema.{rank_in}
use Rattle.name.specs.Laws.Schema.{rank_most, rank-type, rank-first}
use Rattle.name.proofs.rank.Goals as goal

pub returns-then-schema-i : goal.returns-then-schema-i
returns-then-schema-i c =
    let A = c.args in
    let L = c.loop-i in
    omega (arith, L.invariant, rank-first A.schema.now A.t L.i c.loop-i-test.true c.if-schema-i.true)

pub loop-i-preserved : goal.loop-i-preserved
loop-i-preserved c =
    let A = c.args in
    let L = c.loop-i in
    let other : (L.i ≡ rank_in A.schema.now A.t → ⊥) = λ e. c.if-schema-i.false (ap (λ (r : ℕ). get_or A.schema.now r 0 / 4) e ∙ rank-type A.schema.now A.t (omega (arith, e, c.loop-i-test.true))) in
    omega (arith, L.invariant, other)

pub returns : goal.returns
returns c =
    let A = c.args in
    omega (arith, c.loop-i.invariant, c.loop-i-test.false, c.loop-i.auto.i-end (omega (arith, c.requires, rank_most A.schema.now A.t)), rank_most A.schema.now A.t)
