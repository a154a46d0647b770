use native.Mathlib.Omega.{arith}
use Rattle.tables.specs.Laws.World.{known-entry}
use Rattle.directory_lookup.specs.Laws.Find.{within_of}
use Rattle.answer_resolution.specs.Laws.Way.{going-full, going-positive, going-met, going-past, going_on, going-lost, going-ended, going_end}
use Rattle.answer_resolution.proofs.way.way_down.Goals as goal

pub disclosed-last-requires : goal.disclosed-last-requires
disclosed-last-requires c = known-entry c.requires.0.2 _ c.loop-left.invariant.0

pub overflow_sub-number : goal.overflow_sub-number
overflow_sub-number c = let L = c.loop-left in let o = going-positive _ _ _ _ _ _ _ L.invariant.4 c.loop-left-test.true c.down.ensures.1 c.in-To.is c.requires.0.2 in omega (arith, o)

pub returns-then-book-number-ne0 : goal.returns-then-book-number-ne0
returns-then-book-number-ne0 c = let L = c.loop-left in let n = within_of _ _ _ _ c.down.ensures.0 c.in-To.is in let o = going-positive _ _ _ _ _ _ _ L.invariant.4 c.loop-left-test.true c.down.ensures.1 c.in-To.is c.requires.0.2 in let u = going-full _ _ _ _ _ _ _ L.invariant.4 c.loop-left-test.true c.down.ensures.1 c.in-To.is c.requires.0.2 L.invariant.3 in ((o, n, omega (arith, L.invariant.2, c.loop-left-test.true), u), going-met _ _ _ _ _ _ _ L.invariant.4 c.loop-left-test.true c.down.ensures.1 c.in-To.is c.if-stop.true o n c.if-book-number-ne0.true)

pub loop-left-preserved-else-book-number-ne0 : goal.loop-left-preserved-else-book-number-ne0
loop-left-preserved-else-book-number-ne0 c = let L = c.loop-left in let n = within_of _ _ _ _ c.down.ensures.0 c.in-To.is in let o = going-positive _ _ _ _ _ _ _ L.invariant.4 c.loop-left-test.true c.down.ensures.1 c.in-To.is c.requires.0.2 in let u = going-full _ _ _ _ _ _ _ L.invariant.4 c.loop-left-test.true c.down.ensures.1 c.in-To.is c.requires.0.2 L.invariant.3 in (n, c.disclosed-last.ensures.0 _ L.invariant.0 L.invariant.1, omega (arith, L.invariant.2), u, going-past _ _ _ _ _ _ _ L.invariant.4 c.loop-left-test.true c.down.ensures.1 c.in-To.is c.if-stop.true o n c.if-book-number-ne0.false (λ σ es p held W. c.disclosed-last.ensures.1 σ es _ p _ held W (omega (arith, L.invariant.0, W.entries.count))))

pub loop-left-preserved : goal.loop-left-preserved
loop-left-preserved c = let L = c.loop-left in let n = within_of _ _ _ _ c.down.ensures.0 c.in-To.is in let u = going-full _ _ _ _ _ _ _ L.invariant.4 c.loop-left-test.true c.down.ensures.1 c.in-To.is c.requires.0.2 L.invariant.3 in (n, c.disclosed-last.ensures.0 _ L.invariant.0 L.invariant.1, omega (arith, L.invariant.2), u, going_on _ _ _ _ _ _ _ L.invariant.4 c.loop-left-test.true c.down.ensures.1 c.in-To.is c.if-stop.false (λ σ es p held W. c.disclosed-last.ensures.1 σ es _ p _ held W (omega (arith, L.invariant.0, W.entries.count))))

pub disclosed-requires : goal.disclosed-requires
disclosed-requires c = known-entry c.requires.0.2 _ c.loop-left.invariant.0

pub returns-in-Lost : goal.returns-in-Lost
returns-in-Lost c = let L = c.loop-left in (c.disclosed.ensures.0 _ L.invariant.0 L.invariant.1, going-lost _ _ _ _ _ _ _ L.invariant.4 c.loop-left-test.true c.down.ensures.1 c.in-Lost.is (λ σ es p held W. c.disclosed.ensures.1 σ es _ p _ held W (omega (arith, L.invariant.0, W.entries.count))))

pub returns-in-Ended : goal.returns-in-Ended
returns-in-Ended c = let L = c.loop-left in (L.invariant.1, going-ended _ _ _ _ _ _ _ L.invariant.4 c.loop-left-test.true c.down.ensures.1 c.in-Ended.is)

pub returns : goal.returns
returns c = let L = c.loop-left in (L.invariant.1, going_end _ _ _ _ _ _ _ L.invariant.4 c.loop-left-test.false)
