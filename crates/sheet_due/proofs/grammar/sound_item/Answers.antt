-- One case of the definition for each return.
use mathlib.Core.Path.{sym, ap, ◌∙◌}
use borrow.Author.Tests.{eq-eqb, ne_eqb, lt-ltb, le-ltb}
use Rattle.rules.specs.Name.{allowed}
use Rattle.rules.specs.Permission.{sound_item, sound_target}
use Rattle.sheet_due.proofs.grammar.sound_item.Goals as goal

pub returns-then-line-lt-ONE_TYPE : goal.returns-then-line-lt-ONE_TYPE
unfolding sound_item sound_target
returns-then-line-lt-ONE_TYPE c = rw (sym c.is.ensures ∙ c.if-is.true, lt-ltb _ 3 c.if-line-lt-ONE_TYPE.true)

pub returns-then-line-eq-ONE_VALUE : goal.returns-then-line-eq-ONE_VALUE
unfolding sound_item sound_target
returns-then-line-eq-ONE_VALUE c = rw (sym c.is.ensures ∙ c.if-is.true, le-ltb _ 3 c.if-line-lt-ONE_TYPE.false, eq-eqb _ 5 c.if-line-eq-ONE_VALUE.true) (c.allowed.ensures ∙ ap (allowed _ _) c.bytes.ensures)

pub returns-then-is : goal.returns-then-is
unfolding sound_item sound_target
returns-then-is c = rw (sym c.is.ensures ∙ c.if-is.true, le-ltb _ 3 c.if-line-lt-ONE_TYPE.false, ne_eqb _ 5 c.if-line-eq-ONE_VALUE.false) c.known.ensures

pub returns-then-is-2 : goal.returns-then-is-2
unfolding sound_item sound_target
returns-then-is-2 c = rw (sym c.is.ensures ∙ c.if-is.false, sym c.is-2.ensures ∙ c.if-is-2.true) (c.allowed-then-is-2.ensures ∙ ap (allowed _ _) c.bytes-then-is-2.ensures)

pub returns : goal.returns
unfolding sound_item sound_target
returns c = rw (sym c.is.ensures ∙ c.if-is.false, sym c.is-2.ensures ∙ c.if-is-2.false)
