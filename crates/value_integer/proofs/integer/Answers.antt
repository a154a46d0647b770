-- By the sign; a numeral that is too long for the reader is no integer.
use mathlib.Core.Path.{sym, ap, ◌∙◌}
use Rattle.rules.specs.Value.{negative, positive}
use Rattle.value_integer.specs.Laws.Numeral.{negative-bounded, positive-bounded, integer-none, integer-minus, integer-plain}
use Rattle.value_integer.proofs.integer.Goals as goal

pub returns-then-v-eq0 : goal.returns-then-v-eq0
returns-then-v-eq0 c =
    let A = c.args in
    sym (integer-none A.v.now c.if-v-eq0.true)

pub returns-then-v-eq45 : goal.returns-then-v-eq45
returns-then-v-eq45 c =
    let A = c.args in
    c.negative.ensures ∙ ap negative c.number.ensures ∙ negative-bounded _
    ∙ sym (integer-minus A.v.now c.if-v-eq0.false c.if-v-eq45.true)

pub returns : goal.returns
returns c =
    let A = c.args in
    c.positive.ensures ∙ ap positive c.number-2.ensures ∙ positive-bounded _
    ∙ sym (integer-plain A.v.now c.if-v-eq0.false c.if-v-eq45.false)
