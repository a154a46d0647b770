-- The first malformed column decides, else what stands after the five.
use Rattle.std.proofs.Common.{arith}
use Rattle.sheet_frame.specs.Laws.{stop-1, stop-2, stop-3, stop-4, stop-5, all-five}
use Rattle.sheet_frame.proofs.front_in.Goals as goal

pub returns-then-kind : goal.returns-then-kind
returns-then-kind g c = stop-1 g.row.W _ (omega arith) c.requires.2 (c.column-kind.ensures.malformed c.if-kind.true)

pub returns-then-a : goal.returns-then-a
returns-then-a g c = stop-2 g.row.W _ (omega arith) c.requires.2 (c.column-kind.ensures.number c.if-kind.false) (c.column-a.ensures.malformed c.if-a.true)

pub returns-then-b : goal.returns-then-b
returns-then-b g c = stop-3 g.row.W _ (omega arith) c.requires.2 (c.column-kind.ensures.number c.if-kind.false) (c.column-a.ensures.number c.if-a.false) (c.column-b.ensures.malformed c.if-b.true)

pub returns-then-c : goal.returns-then-c
returns-then-c g c = stop-4 g.row.W _ (omega arith) c.requires.2 (c.column-kind.ensures.number c.if-kind.false) (c.column-a.ensures.number c.if-a.false) (c.column-b.ensures.number c.if-b.false) (c.column-c.ensures.malformed c.if-c.true)

pub returns-then-n : goal.returns-then-n
returns-then-n g c = stop-5 g.row.W _ (omega arith) c.requires.2 (c.column-kind.ensures.number c.if-kind.false) (c.column-a.ensures.number c.if-a.false) (c.column-b.ensures.number c.if-b.false) (c.column-c.ensures.number c.if-c.false) (c.column-n.ensures.malformed c.if-n.true)

pub returns : goal.returns
returns g c = all-five g.row.W _ (omega arith) c.requires.2 (c.column-kind.ensures.number c.if-kind.false) (c.column-a.ensures.number c.if-a.false) (c.column-b.ensures.number c.if-b.false) (c.column-c.ensures.number c.if-c.false) (c.column-n.ensures.number c.if-n.false) c.framed.ensures
