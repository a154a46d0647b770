-- First bytes that differ, and are no blanks, tell the order.
use mathlib.Core.Path.{sym, ◌∙◌}
use Rattle.value_text.specs.Laws.Walk.{first-apart}
use Rattle.value_text.proofs.order_text.Goals as goal

pub returns-then-b-ne-BLANK : goal.returns-then-b-ne-BLANK
returns-then-b-ne-BLANK c =
    let A = c.args in
    c.apart.ensures ∙ sym (first-apart A.v.now A.w.now c.if-v-gt0.true c.if-w-gt0.true _ _ c.small-a.ensures c.small-b.ensures c.if-a-b.true c.if-a-ne-BLANK.true c.if-b-ne-BLANK.true)
