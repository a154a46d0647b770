use mathlib.Core.Path.{refl, ◌∙◌}
use lib.ListN.{length, length-set}
use native.Mathlib.Omega.{arith}
use Prim.Native.Nat.{◌-◌, ◌/◌, ◌≤◌, ◌<◌}
use Rattle.tables.specs.Book.{first_at}
use Rattle.tables.specs.Laws.Book.{end_is}
use Rattle.tables.specs.Laws.World.{rows-within}
use Rattle.filter_matchable.specs.Laws.Matchable.{blank_none, blank-on, values-none, values-on}
use Rattle.filter_matchable.proofs.matchable.matchable_values.Goals as goal

pub loop-i-init : goal.loop-i-init
loop-i-init c = (refl, blank_none 34 _, λ σ es w. values-none σ es c.args.d.now c.args.book.now c.args.held.now c.args.k c.args.asked (first_at c.args.book.now c.args.k) _ refl)

pub loop-i-preserved : goal.loop-i-preserved
loop-i-preserved c =
    let a = c.args in
    let L = c.loop-i in
    let first = first_at a.book.now a.k in
    let room : (L.i - first) / 64 < length L.values = omega (arith, c.loop-i-test.true, L.invariant.0, (rows-within c.requires.0.2.entries a.k c.requires.1).1, end_is a.book.now a.k) in
    let from : first ≤ L.i = L.auto.i in (
      length-set L.values _ _ ∙ L.invariant.0,
      blank-on L.values first L.i c.bit_if.result c.value_matchable.result c.bit_if.ensures room from L.invariant.1,
      λ σ es w. values-on L.values first L.i c.bit_if.result c.value_matchable.result c.bit_if.ensures room from σ es a.d.now a.book.now a.held.now a.k a.asked refl L.invariant.1 (c.value_matchable.ensures σ es w) (L.invariant.2 σ es w),
    )
