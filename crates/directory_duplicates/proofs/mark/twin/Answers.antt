use borrow.Author.Tests.{not-true}
use Rattle.directory_duplicates.specs.Laws.Mark.{start, index, here, gone, found, onward, readable, older}
use mathlib.Core.Path.{sym, ◌∙◌}
use native.Mathlib.Omega.{arith}
use Rattle.directory_duplicates.proofs.mark.twin.Goals as goal

pub returns-then-not-may : goal.returns-then-not-may
returns-then-not-may c = λ key all walk. sym (walk.without (not-true _ c.if-not-may.true-raw) _)

pub loop-k-init : goal.loop-k-init
loop-k-init c = λ key all walk. start walk

pub offset_bounds-marks-k : goal.offset_bounds-marks-k
offset_bounds-marks-k c = let q = c.loop-k.invariant c.requires.0 c.requires.1 c.requires.2 in omega (arith, index c.requires.2 q.0 q.1 c.loop-k-test.true)

pub bounds-marks-k : goal.bounds-marks-k
bounds-marks-k c = let q = c.loop-k.invariant c.requires.0 c.requires.1 c.requires.2 in omega (arith, index c.requires.2 q.0 q.1 c.loop-k-test.true)

pub bears-requires : goal.bears-requires
bears-requires c = let q = c.loop-k.invariant c.requires.0 c.requires.1 c.requires.2 in let h = here c.requires.2 q.0 q.1 c.loop-k-test.true in readable c.requires.2 h.2

pub returns-then-bears : goal.returns-then-bears
returns-then-bears c = λ key all walk. let q = c.loop-k.invariant key all walk in let h = here walk q.0 q.1 c.loop-k-test.true in found walk h.2 (sym c.bears.ensures ∙ c.if-bears.true)

pub loop-k-smaller : goal.loop-k-smaller
loop-k-smaller c = let q = c.loop-k.invariant c.requires.0 c.requires.1 c.requires.2 in let h = here c.requires.2 q.0 q.1 c.loop-k-test.true in older c.requires.2 h.2

pub loop-k-preserved : goal.loop-k-preserved
loop-k-preserved c = λ key all walk. let q = c.loop-k.invariant key all walk in let h = here walk q.0 q.1 c.loop-k-test.true in onward walk h.2 (sym c.bears.ensures ∙ c.if-bears.false)

pub returns : goal.returns
returns c = λ key all walk. let q = c.loop-k.invariant key all walk in gone walk q.0 q.1 c.loop-k-test.false
