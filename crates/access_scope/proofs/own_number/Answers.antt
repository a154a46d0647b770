use Prim.Native.Nat.{zero-le}
use mathlib.Core.Path.{sym, ap, ◌∙◌}
use Rattle.tables.specs.Numbers.{number_or0}
use Rattle.directory_lookup.specs.Laws.Find.{up_to}
use Rattle.access_scope.proofs.own_number.Goals as goal

pub returns-in-Some : goal.returns-in-Some
returns-in-Some c = (up_to _ _ _ c.resolve.ensures.0 c.in-Some.is, λ σ es held h. ap number_or0 (sym c.in-Some.is ∙ c.resolve.ensures.1 σ es held h))

pub returns-in-None : goal.returns-in-None
returns-in-None c = (zero-le, λ σ es held h. ap number_or0 (sym c.in-None.is ∙ c.resolve.ensures.1 σ es held h))
