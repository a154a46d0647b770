use Rattle.std.proofs.Common.{sym, ◌∙◌, arith}
use Rattle.value_integer.specs.Laws.Numeral.{digits-off, digits-on, digits-end, below_on, below-18}
use Rattle.value_integer.proofs.digits.Goals as goal

pub returns-then-d-gt9 : goal.returns-then-d-gt9
returns-then-d-gt9 c =
    let L = c.loop-b in
    sym (digits-off c.args.s.now L.b-index L.v c.loop-b-test.true (rw c.digit-d.ensures at c.if-d-gt9.true)) ∙ L.invariant.1

pub overflow_mul-v : goal.overflow_mul-v
overflow_mul-v c = omega (arith, below-18 c.loop-b.v c.loop-b.b-index c.loop-b.invariant.0 (omega arith))

pub overflow_add-v : goal.overflow_add-v
overflow_add-v c = omega (arith, below-18 c.loop-b.v c.loop-b.b-index c.loop-b.invariant.0 (omega arith))

pub loop-b-preserved : goal.loop-b-preserved
loop-b-preserved c =
    let L = c.loop-b in
    let D = c.digit-d in (
      below_on L.v D.result L.b-index L.invariant.0 c.if-d-gt9.false,
      rw D.ensures (sym (digits-on c.args.s.now L.b-index L.v c.loop-b-test.true (rw D.ensures at c.if-d-gt9.false)) ∙ L.invariant.1),
    )

pub returns : goal.returns
returns c =
    let L = c.loop-b in
    sym (digits-end c.args.s.now L.b-index L.v c.loop-b-test.false) ∙ L.invariant.1
