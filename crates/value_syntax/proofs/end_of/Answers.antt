-- By the definition's cases.
use mathlib.Core.Path.{sym, ◌∙◌}
use borrow.Author.Tests.{eq-eqb, ne_eqb}
use lib.ListN.{length-drop}
use Rattle.rules.specs.Value.{text, used}
use Rattle.rules.proofs.Laws.Substrings.{folded-length}
use Rattle.value_substring.specs.Laws.Pieces.{ends-short, ends-stands}
use Rattle.value_syntax.proofs.end_of.Goals as goal

pub returns-then-stands : goal.returns-then-stands
unfolding used
returns-then-stands c = rw (eq-eqb _ _ c.if-place-eq0.true, sym c.stands.ensures ∙ c.if-stands.true, folded-length text c.args.p.now)

pub returns-then-place-eq0 : goal.returns-then-place-eq0
unfolding used
returns-then-place-eq0 c = rw (eq-eqb _ _ c.if-place-eq0.true, sym c.stands.ensures ∙ c.if-stands.false)

pub returns-then-place-eq1 : goal.returns-then-place-eq1
unfolding used
returns-then-place-eq1 c = rw c.if-place-eq1.true c.any.ensures

pub returns-then-v-from : goal.returns-then-v-from
unfolding used
returns-then-v-from c =
    let A = c.args in
    rw (ne_eqb _ _ c.if-place-eq0.false, ne_eqb _ _ c.if-place-eq1.false, ends-short A.v.now A.p.now A.from c.if-v-from.true)

pub returns-then-stands-2 : goal.returns-then-stands-2
unfolding used
returns-then-stands-2 c =
    let A = c.args in
    rw (ne_eqb _ _ c.if-place-eq0.false, ne_eqb _ _ c.if-place-eq1.false, ends-stands A.v.now A.p.now A.from c.requires c.if-v-from.false, sym c.stands-2.ensures ∙ c.if-stands-2.true, length-drop, folded-length)

pub returns : goal.returns
unfolding used
returns c =
    let A = c.args in
    rw (ne_eqb _ _ c.if-place-eq0.false, ne_eqb _ _ c.if-place-eq1.false, ends-stands A.v.now A.p.now A.from c.requires c.if-v-from.false, sym c.stands-2.ensures ∙ c.if-stands-2.false)
