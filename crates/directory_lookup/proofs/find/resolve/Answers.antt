use Prim.Native.Nat.{◌+◌, ◌-◌, zero-le}
use mathlib.Core.Path.{◌≡◌, subst}
use native.Mathlib.Omega.{arith}
use Rattle.directory_lookup.specs.Laws.Find.{within_of, Led, led-start, led_on, led-lost, led-ended, led-end}
use Rattle.directory_lookup.proofs.find.resolve.Goals as goal

pub loop-k-init : goal.loop-k-init
loop-k-init c = let z : c.args.n ≡ c.args.n - 0 = omega arith in (zero-le, subst (Led _ _ _ _ _ 0 _) z (led-start _ _ _ _ _))

pub loop-k-preserved : goal.loop-k-preserved
loop-k-preserved c =
    let L = c.loop-k in
    let z : c.args.n - L._k - 1 ≡ c.args.n - (L._k + 1) = omega arith in
    (within_of _ _ _ _ c.down.ensures.0 c.in-To.is, subst (Led _ _ _ _ _ _ _) z (led_on _ _ _ _ _ L.from L.j _ L.invariant.1 (omega (arith, c.loop-k-test.true)) _ c.down.ensures.1 _ _ c.in-To.is))

pub returns-in-Lost : goal.returns-in-Lost
returns-in-Lost c = let L = c.loop-k in (tt, led-lost _ _ _ _ _ L.from L.j _ L.invariant.1 (omega (arith, c.loop-k-test.true)) _ c.down.ensures.1 c.in-Lost.is)

pub returns-in-Ended : goal.returns-in-Ended
returns-in-Ended c = let L = c.loop-k in (L.invariant.0, led-ended _ _ _ _ _ L.from L.j _ L.invariant.1 (omega (arith, c.loop-k-test.true)) _ c.down.ensures.1 c.in-Ended.is)

pub returns : goal.returns
returns c = let L = c.loop-k in (L.invariant.0, led-end _ _ _ _ _ L.from L.j _ L.invariant.1 (omega (arith, c.loop-k-test.false)))
