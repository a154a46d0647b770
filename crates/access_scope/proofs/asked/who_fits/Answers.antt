use mathlib.Core.Path.{sym, ◌∙◌}
use Rattle.access_scope.specs.Laws.Scopes.{who-all, who-self, who-below, who-other, who-named}
use Rattle.access_scope.proofs.asked.who_fits.Goals as goal
use Rattle.access_scope.proofs.asked.who_fits.Goals.{then-x-ne-AT_OR_BELOW+else-x-who, else-x-ne-AT_OR_BELOW}

pub returns-then-x-eq-ALL_USERS : goal.returns-then-x-eq-ALL_USERS
returns-then-x-eq-ALL_USERS c = sym (who-all _ _ _ _ c.if-x-eq-ALL_USERS.true)

pub returns-then-x-eq-ENTRY_ITSELF : goal.returns-then-x-eq-ENTRY_ITSELF
returns-then-x-eq-ENTRY_ITSELF c = sym (who-self _ _ _ _ c.if-x-eq-ALL_USERS.false c.if-x-eq-ENTRY_ITSELF.true)

pub returns-then-x-who : goal.returns-then-x-who
returns-then-x-who c = sym (who-other _ _ _ _ c.if-x-eq-ALL_USERS.false c.if-x-eq-ENTRY_ITSELF.false c.if-x-ne-AT_OR_BELOW.true c.if-x-who.true)

pub returns : goal.returns
returns c =
    c.covers.ensures
    ∙ elim c.if-x-ne-AT_OR_BELOW.branch [
      | then-x-ne-AT_OR_BELOW+else-x-who w ↦ sym (who-named _ _ _ _ c.if-x-eq-ALL_USERS.false c.if-x-eq-ENTRY_ITSELF.false w.if-x-ne-AT_OR_BELOW.true w.if-x-who.false)
      | else-x-ne-AT_OR_BELOW w ↦ sym (who-below _ _ _ _ c.if-x-eq-ALL_USERS.false c.if-x-eq-ENTRY_ITSELF.false w.if-x-ne-AT_OR_BELOW.false)
    ]
