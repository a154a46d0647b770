use Rattle.directory_entry.specs.EntryLine.{place_refusal}
use borrow.Author.Tests.{le-leb, lt-leb, lt-ltb, le-ltb}
use native.Mathlib.Omega.{arith}
use Rattle.directory_entry.proofs.misplaced.Goals as goal

pub returns-then-count-a : goal.returns-then-count-a
unfolding place_refusal
returns-then-count-a c = rw (lt-ltb _ _ c.if-count-a.true)

pub returns-then-lacks : goal.returns-then-lacks
unfolding place_refusal
returns-then-lacks c = rw (le-ltb _ _ c.if-count-a.false, c.if-lacks.true)

pub returns-then-count-ge256 : goal.returns-then-count-ge256
unfolding place_refusal
returns-then-count-ge256 c = rw (le-ltb _ _ c.if-count-a.false, c.if-lacks.false, le-leb _ _ c.if-count-ge256.true)

pub offset_bounds-depths-parent : goal.offset_bounds-depths-parent
offset_bounds-depths-parent c = omega (arith, c.if-count-a.false, c.requires.0)

pub bounds-depths-parent : goal.bounds-depths-parent
bounds-depths-parent c = omega (arith, c.if-count-a.false, c.requires.0, c.requires.1)

pub returns-then-depths-parent-ge8 : goal.returns-then-depths-parent-ge8
unfolding place_refusal
returns-then-depths-parent-ge8 c = rw (le-ltb _ _ c.if-count-a.false, c.if-lacks.false, lt-leb _ _ c.if-count-ge256.false, le-leb _ _ c.if-depths-parent-ge8.true)

pub returns : goal.returns
unfolding place_refusal
returns c = rw (le-ltb _ _ c.if-count-a.false, c.if-lacks.false, lt-leb _ _ c.if-count-ge256.false, lt-leb _ _ c.if-depths-parent-ge8.false)
