use mathlib.Core.Path.{◌∙◌}
use Rattle.access_scope.specs.Laws.Scopes.{spread-base, spread-own}
use Rattle.access_scope.proofs.spread.Goals as goal

pub returns-then-who-ne-ENTRY_ITSELF : goal.returns-then-who-ne-ENTRY_ITSELF
returns-then-who-ne-ENTRY_ITSELF c = λ σ es d held h. c.base_reach.ensures ∙ spread-base es _ _ _ _ c.if-who-ne-ENTRY_ITSELF.true

pub returns : goal.returns
returns c = λ σ es d held h. c.own_reach.ensures σ es d held h ∙ spread-own es _ _ _ _ c.if-who-ne-ENTRY_ITSELF.false
