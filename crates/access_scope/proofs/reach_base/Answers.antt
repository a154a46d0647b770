use mathlib.Core.Path.{sym, ap, ◌∙◌}
use native.Mathlib.Omega.{arith}
use Rattle.directory_lookup.specs.Laws.Find.{up_to}
use Rattle.access_scope.specs.Scopes.{spread_from}
use Rattle.access_scope.proofs.reach_base.Goals as goal

pub spread-requires : goal.spread-requires
spread-requires c = ((c.args.d.now, c.requires.0), omega (arith, up_to _ _ _ c.resolve.ensures.0 c.in-Some.is, c.requires.0.3.fits.few-entries), c.requires.1)

pub returns-in-Some : goal.returns-in-Some
returns-in-Some c = let a = c.args in λ σ es held h. c.spread.ensures σ es a.d.now held h ∙ ap (spread_from es a.x.who a.x.below a.o) (sym c.in-Some.is ∙ c.resolve.ensures.1 σ es held h)

pub returns-in-None : goal.returns-in-None
returns-in-None c = let a = c.args in λ σ es held h. ap (spread_from es a.x.who a.x.below a.o) (sym c.in-None.is ∙ c.resolve.ensures.1 σ es held h)
