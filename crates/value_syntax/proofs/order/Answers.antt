-- By the definition's cases.
use borrow.Author.Tests.{eq-eqb, ne_eqb}
use Rattle.rules.specs.Value.{order}
use Rattle.rules.proofs.Laws.Value.{normal-other}
use Rattle.value_syntax.proofs.order.Goals as goal

pub returns-then-syntax-eq-INTEGER : goal.returns-then-syntax-eq-INTEGER
unfolding order
returns-then-syntax-eq-INTEGER c = rw (eq-eqb _ _ c.if-syntax-eq-INTEGER.true, c.order_integers.ensures, c.integer-then-syntax-eq-INTEGER.ensures, c.integer.ensures)

pub returns-then-syntax-eq-TEXT : goal.returns-then-syntax-eq-TEXT
unfolding order
returns-then-syntax-eq-TEXT c = rw (ne_eqb _ _ c.if-syntax-eq-INTEGER.false, c.if-syntax-eq-TEXT.true) c.order_text.ensures

pub returns : goal.returns
unfolding order
returns c =
    let A = c.args in
    rw (ne_eqb _ _ c.if-syntax-eq-INTEGER.false, normal-other A.syntax A.v.now c.if-syntax-eq-TEXT.false, normal-other A.syntax A.w.now c.if-syntax-eq-TEXT.false) c.order_bytes.ensures
