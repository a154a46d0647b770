use mathlib.Core.Path.{sym, ap, ◌∙◌}
use mathlib.Core.Bool.{true, false}
use native.Mathlib.Omega.{arith}
use lib.ListN.{drop}
use Rattle.rules.specs.Value.{tidied}
use Rattle.rules.specs.Derived.{words}
use Rattle.value_blank.specs.declared.Text.{Text}
use Rattle.value_blank.specs.Laws.Blank.{skip-within, next-byte, next-end, tidied-none, tidied-some}
use Rattle.value_blank.specs.Laws.Text.{filled, none, filled_none, filled_on, filled-end}
use Rattle.value_blank.proofs.tidied.Goals as goal

pub returns-then-i-v : goal.returns-then-i-v
returns-then-i-v c =
    let s = c.args.v.now in
    let S = c.skip-i in
    c.put.ensures ∙ sym (filled-end _) ∙ sym (filled_on none 32 _) ∙ ap (filled none) (sym (tidied-none s S.result S.ensures c.if-i-v.true)) ∙ filled_none (tidied s)

pub loop-b-init : goal.loop-b-init
loop-b-init c =
    let s = c.args.v.now in
    let S = c.skip-i in
    (omega (arith, skip-within s 0 (omega arith), S.ensures), ap (filled none) (sym (tidied-some s S.result S.ensures c.if-i-v.false)))

pub returns-in_default : goal.returns-in_default
returns-in_default c =
    let s = c.args.v.now in
    let L = c.loop-b in
    sym (ap (filled L.t) (next-end s L.i L.invariant.0 (sym c.next_at.ensures ∙ c.in_default.is)) ∙ filled-end L.t) ∙ L.invariant.1 ∙ filled_none (tidied s)

pub loop-b-smaller : goal.loop-b-smaller
loop-b-smaller c =
    let s = c.args.v.now in
    let L = c.loop-b in
    omega (arith, (next-byte s L.i L.invariant.0 _ _ (sym c.next_at.ensures ∙ c.in-Some.is)).1)

pub loop-b-preserved : goal.loop-b-preserved
loop-b-preserved c =
    let s = c.args.v.now in
    let L = c.loop-b in
    let N = next-byte s L.i L.invariant.0 _ _ (sym c.next_at.ensures ∙ c.in-Some.is) in
    (N.1.1, ap (λ (x : Text). filled x (words true false (drop c.in-Some.k s))) c.put-t.ensures ∙ sym (filled_on L.t _ _) ∙ ap (filled L.t) (sym N.0) ∙ L.invariant.1)
