use mathlib.Core.Path.{refl, sym, ◌∙◌}
use native.Mathlib.Omega.{arith}
use Rattle.value_blank.specs.Laws.Blank.{next-byte}
use Rattle.value_text.specs.Laws.Walk.{walk-ended, walk-longer, walk-apart, walk-on}
use borrow.Author.Rules.{rules}
use Rattle.value_text.proofs.order_from.Goals as goal

pub loop-a-init : goal.loop-a-init
loop-a-init c = (search rules, search rules, refl)

pub returns-in_default : goal.returns-in_default
returns-in_default c =
    let A = c.args in
    let L = c.loop-a in
    c.ended.ensures ∙ sym (walk-ended A.v.now A.w.now L.i L.j L.invariant.0 L.invariant.1 (sym c.next_at.ensures ∙ c.in_default.is) _ c.next_at-in_default.ensures) ∙ L.invariant.2

pub returns-in_default-next_at : goal.returns-in_default-next_at
returns-in_default-next_at c =
    let A = c.args in
    let L = c.loop-a in
    sym (walk-longer A.v.now A.w.now L.i L.j L.invariant.0 L.invariant.1 _ _ (sym c.next_at.ensures ∙ c.in-Some.is) (sym c.next_at-in-loop-a.ensures ∙ c.in_default-next_at.is)) ∙ L.invariant.2

pub returns-then-x-y : goal.returns-then-x-y
returns-then-x-y c =
    let A = c.args in
    let L = c.loop-a in
    c.apart.ensures ∙ sym (walk-apart A.v.now A.w.now L.i L.j L.invariant.0 L.invariant.1 _ _ (sym c.next_at.ensures ∙ c.in-Some.is) _ _ (sym c.next_at-in-loop-a.ensures ∙ c.in-Some-next_at.is) _ _ c.small-x.ensures c.small-y.ensures c.if-x-y.true) ∙ L.invariant.2

pub loop-a-smaller : goal.loop-a-smaller
loop-a-smaller c =
    let A = c.args in
    let L = c.loop-a in
    omega (arith, (next-byte A.v.now L.i L.invariant.0 _ _ (sym c.next_at.ensures ∙ c.in-Some.is)).1)

pub loop-a-preserved : goal.loop-a-preserved
loop-a-preserved c =
    let A = c.args in
    let L = c.loop-a in
    let one = next-byte A.v.now L.i L.invariant.0 _ _ (sym c.next_at.ensures ∙ c.in-Some.is) in
    let two = next-byte A.w.now L.j L.invariant.1 _ _ (sym c.next_at-in-loop-a.ensures ∙ c.in-Some-next_at.is) in
    (one.1.1, two.1.1, sym (walk-on A.v.now A.w.now L.i L.j L.invariant.0 L.invariant.1 _ _ (sym c.next_at.ensures ∙ c.in-Some.is) _ _ (sym c.next_at-in-loop-a.ensures ∙ c.in-Some-next_at.is) _ _ c.small-x.ensures c.small-y.ensures c.if-x-y.false) ∙ L.invariant.2)
