-- First bytes that differ, and are no blanks, tell that the texts do; else the order does.
use mathlib.Core.Path.{sym, ap, ◌∙◌}
use Rattle.value_text.specs.Walk.{is_equal}
use Rattle.value_text.specs.Laws.Walk.{first-apart, apart-unequal, same-order}
use borrow.Author.Rules.{rules}
use Rattle.value_text.proofs.same_text.Goals as goal

pub returns-then-b-ne-BLANK : goal.returns-then-b-ne-BLANK
returns-then-b-ne-BLANK c =
    let A = c.args in
    sym
    (same-order A.v.now A.w.now
    ∙ ap is_equal (first-apart A.v.now A.w.now c.if-v-gt0.true c.if-w-gt0.true c.small-a.result c.small-b.result c.small-a.ensures c.small-b.ensures c.if-a-b.true c.if-a-ne-BLANK.true c.if-b-ne-BLANK.true)
    ∙ apart-unequal c.small-a.result c.small-b.result)

pub returns : goal.returns
returns c = let A = c.args in c.equal.ensures ∙ ap is_equal c.order_after.ensures ∙ sym (same-order A.v.now A.w.now)
