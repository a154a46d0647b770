use native.Mathlib.Omega.{arith}
use Prim.Native.Nat.{◌-◌}
use Rattle.answer_name.specs.Laws.Name.{climb-start, climb-on, climb-end}
use Rattle.tables.specs.Laws.World.{parent-falls}
use Rattle.answer_name.proofs.depth.Goals as goal

pub loop-j-init : goal.loop-j-init
loop-j-init c = (c.requires.1, omega arith, climb-start c.args.book.now c.args.e)

pub overflow_add-j : goal.overflow_add-j
overflow_add-j c = omega (arith, c.loop-j.invariant.0, c.requires.0.1.3.fits.few-entries)

pub offset_bounds-book-j : goal.offset_bounds-book-j
offset_bounds-book-j c = omega (arith, c.loop-j.invariant.0, c.requires.0.1.3.fits.few-entries)

pub bounds-book-j : goal.bounds-book-j
bounds-book-j c = omega (arith, c.loop-j.invariant.0, c.requires.0.1.3.fits.few-entries)

pub overflow_add-n : goal.overflow_add-n
overflow_add-n c = omega (arith, c.loop-j.invariant.1, c.requires.1, c.requires.0.1.3.fits.few-entries)

pub loop-j-smaller : goal.loop-j-smaller
loop-j-smaller c = let L = c.loop-j in
    let t = c.loop-j-test.true in
    omega (arith, t, parent-falls c.requires.0.1.3 (L.j - 1) (omega (arith, t, L.invariant.0)))

pub loop-j-preserved : goal.loop-j-preserved
loop-j-preserved c = let a = c.args in
    let L = c.loop-j in
    let t = c.loop-j-test.true in
    let h = parent-falls c.requires.0.1.3 (L.j - 1) (omega (arith, t, L.invariant.0)) in
    (omega (arith, h, t, L.invariant.0), omega (arith, h, t, L.invariant.1), climb-on a.book.now a.e L.n L.j (omega (arith, t)) L.invariant.0 L.invariant.2)

pub returns : goal.returns
returns c = climb-end c.args.book.now c.args.e c.loop-j.n c.loop-j.j c.loop-j-test.false c.loop-j.invariant.2
