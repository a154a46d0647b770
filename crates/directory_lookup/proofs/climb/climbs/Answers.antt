use Prim.Native.Nat.{◌-◌}
use native.Mathlib.Omega.{arith}
use Rattle.tables.specs.Laws.World.{parent-falls}
use Rattle.directory_lookup.specs.Laws.Climb.{climbing-start, climbing-on, climbing-end}
use Rattle.directory_lookup.proofs.climb.climbs.Goals as goal

pub loop-k-init : goal.loop-k-init
loop-k-init c = (c.requires.1, climbing-start _ _ _)

pub loop-k-smaller : goal.loop-k-smaller
loop-k-smaller c = let L = c.loop-k in omega (arith, c.loop-k-test.true, parent-falls c.requires.0.1.3 (L.k - 1) (omega (arith, L.invariant.0, c.loop-k-test.true)))

pub loop-k-preserved : goal.loop-k-preserved
loop-k-preserved c = let L = c.loop-k in
    (omega (arith, L.invariant.0, parent-falls c.requires.0.1.3 (L.k - 1) (omega (arith, L.invariant.0, c.loop-k-test.true))), climbing-on _ _ _ L.k L.invariant.0 L.invariant.1 c.loop-k-test.true)

pub returns : goal.returns
returns c = let L = c.loop-k in climbing-end _ _ _ L.k L.invariant.0 L.invariant.1 c.loop-k-test.false
