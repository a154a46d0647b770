-- By the definition's cases.
use mathlib.Core.Path.{sym, ◌∙◌}
use borrow.Author.Tests.{eq-eqb, ne_eqb}
use Rattle.std.proofs.Common.{true}
use Rattle.rules.specs.Value.{sized, fits}
use Rattle.value_syntax.specs.Laws.Text.{fold-all}
use Rattle.value_syntax.proofs.fits.Goals as goal

pub returns-then-syntax-eq-OCTETS : goal.returns-then-syntax-eq-OCTETS
unfolding fits sized
returns-then-syntax-eq-OCTETS c = rw (eq-eqb _ _ c.if-syntax-eq-OCTETS.true)

pub returns-then-syntax-eq-TEXT : goal.returns-then-syntax-eq-TEXT
unfolding fits sized
returns-then-syntax-eq-TEXT c = rw (ne_eqb _ _ c.if-syntax-eq-OCTETS.false, eq-eqb _ _ c.if-syntax-eq-TEXT.true, c.printable.ensures ∙ fold-all true c.args.v.now)

pub returns-in_default : goal.returns-in_default
unfolding fits
returns-in_default c = rw (ne_eqb _ _ c.if-syntax-eq-OCTETS.false, ne_eqb _ _ c.if-syntax-eq-TEXT.false, sym c.integer.ensures ∙ c.in_default.is)

pub returns : goal.returns
unfolding fits
returns c = rw (ne_eqb _ _ c.if-syntax-eq-OCTETS.false, ne_eqb _ _ c.if-syntax-eq-TEXT.false, sym c.integer.ensures ∙ c.in-Some.is)
