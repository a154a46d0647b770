use Prim.Native.Nat.{ℕ}
use mathlib.Core.Path.{◌≡◌, refl, sym, ap, ◌∙◌}
use native.Mathlib.Omega.{arith}
use lib.ListN.{take, length-set, length-replicate}
use Rattle.access_order.specs.Pass.{up_to}
use Rattle.access_items.specs.Rank.{scores_of}
use Rattle.access_items.specs.Laws.Rank.{scores-more, order-of-keys}
use Rattle.access_items.proofs.rank_items.Goals as goal

pub loop-k-init : goal.loop-k-init
loop-k-init c = (length-replicate {A = ℕ} 256 0, unfold scores_of in unfold up_to in refl)

pub loop-k-preserved : goal.loop-k-preserved
loop-k-preserved c =
    let A = c.args in
    let L = c.loop-k in (
      length-set L.keys L.k _ ∙ L.invariant.0,
      scores-more A.rights.now L.keys L.k (omega (arith, c.loop-k-test.true, L.invariant.0, c.requires.1)) L.invariant.1,
    )

pub returns : goal.returns
returns c =
    let A = c.args in
    let L = c.loop-k in
    let e : L.k ≡ A.count = omega (arith, c.loop-k-test.false) in
    let scored = ap (λ (m : ℕ). take m L.keys) (sym e) ∙ L.invariant.1 ∙ ap (scores_of A.rights.now) e in
    order-of-keys A.rights.now L.keys A.order.now _ A.count scored c.sort.ensures
