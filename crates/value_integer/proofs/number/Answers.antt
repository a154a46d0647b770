-- By the number of digits, and the first one.
use Rattle.std.proofs.Common.{sym, ap, ◌∙◌, ◌≡◌, ◌-◌, length, take, drop, arith}
use Rattle.std.proofs.lemmas.Grind.{common_steps}
use Rattle.rules.specs.Sheet.{digits}
use Rattle.value_integer.specs.Laws.Numeral.{bounded-none, bounded-long, bounded-zero, bounded-one, bounded-many}
use Rattle.value_integer.proofs.number.Goals as goal
use Rattle.value_integer.proofs.number.Goals.{then-n-gt1+else-s-from-eq48, else-n-gt1}

pub returns-then-n-eq0 : goal.returns-then-n-eq0
returns-then-n-eq0 c =
    let A = c.args in
    sym (bounded-none A.s.now A.from c.if-n-eq0.true)

pub returns-then-n-gt19 : goal.returns-then-n-gt19
returns-then-n-gt19 c =
    let A = c.args in
    sym (bounded-long A.s.now A.from c.if-n-gt19.true)

pub returns-then-s-from-eq48 : goal.returns-then-s-from-eq48
returns-then-s-from-eq48 c =
    let A = c.args in
    sym (bounded-zero A.s.now A.from c.if-n-gt19.false c.if-n-gt1.true c.if-s-from-eq48.true)

pub returns : goal.returns
returns c =
    let A = c.args in
    let h = c.if-n-gt19.false in
    let rest : take (length A.s.now - A.from) (drop A.from A.s.now) ≡ drop A.from A.s.now = grind (arith, common_steps) in
    c.digits.ensures ∙ ap (digits 0) rest
    ∙ elim c.if-n-gt1.branch [
      | then-n-gt1+else-s-from-eq48 w ↦ sym (bounded-many A.s.now A.from h (omega (arith, w.if-n-gt1.true)) w.if-s-from-eq48.false)
      | else-n-gt1 w ↦ sym (bounded-one A.s.now A.from h (omega (arith, w.if-n-gt1.false, c.if-n-eq0.false)))
    ]
