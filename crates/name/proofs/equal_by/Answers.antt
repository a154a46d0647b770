use mathlib.Core.Path.{sym, ◌∙◌}
use Rattle.name.specs.Laws.Schema.{equal-fit, equal-unfit, equal-apart}
use Rattle.name.proofs.equal_by.Goals as goal

pub returns-then-fits : goal.returns-then-fits
returns-then-fits c =
    let a = c.args in
    c.fits-then-fits.ensures ∙ sym (equal-fit a.s a.v.now a.u.now (sym c.same.ensures ∙ c.if-same.true) (sym c.fits.ensures ∙ c.if-fits.true))

pub returns-else-fits : goal.returns-else-fits
returns-else-fits c =
    let a = c.args in
    sym (equal-unfit a.s a.v.now a.u.now (sym c.fits.ensures ∙ c.if-fits.false))

pub returns-else-same : goal.returns-else-same
returns-else-same c =
    let a = c.args in
    sym (equal-apart a.s a.v.now a.u.now (sym c.same.ensures ∙ c.if-same.false))
