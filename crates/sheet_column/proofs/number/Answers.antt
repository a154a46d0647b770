use Rattle.std.proofs.Common.{sym, ◌∙◌, arith}
use Rattle.sheet_column.specs.Laws.{digits_low, digits-high, digits-on, digits-end, digit_room, power-room, coded_none, coded-number}
use Rattle.sheet_column.proofs.number.Goals as goal

pub returns-then-b-lt48 : goal.returns-then-b-lt48
returns-then-b-lt48 c = coded_none (sym c.loop-b.invariant.1 ∙ digits_low _ _ c.loop-b-test.true _ c.if-b-lt48.true)

pub returns-then-b-gt57 : goal.returns-then-b-gt57
returns-then-b-gt57 c = coded_none (sym c.loop-b.invariant.1 ∙ digits-high _ _ c.loop-b-test.true _ c.if-b-gt57.true)

pub overflow_mul-v : goal.overflow_mul-v
overflow_mul-v c = omega (arith, power-room _ _ 17 c.loop-b.invariant.0 (omega arith))

pub overflow_add-v : goal.overflow_add-v
overflow_add-v c = omega (arith, power-room _ _ 17 c.loop-b.invariant.0 (omega arith))

pub loop-b-preserved : goal.loop-b-preserved
loop-b-preserved c = (digit_room _ _ _ c.loop-b.invariant.0 (omega arith), sym (digits-on _ _ c.loop-b-test.true _ c.if-b-lt48.false c.if-b-gt57.false) ∙ c.loop-b.invariant.1)

pub returns : goal.returns
returns c = coded-number c.loop-b.v (omega (arith, power-room _ _ 18 c.loop-b.invariant.0 (omega arith))) (sym c.loop-b.invariant.1 ∙ digits-end _ _ _ c.loop-b-test.false)
