use mathlib.Core.Path.{◌≡◌}
use lib.ListN.{length, drop}
use Rattle.access_scope.specs.Laws.Resolved.{Resolved}
use Rattle.access_scope.proofs.reach_all.Given as goal

abbrev pub invariant-loop-k : goal.invariant-loop-k
invariant-loop-k l = (length l.reach ≡ 256) × (drop l.count l.reach ≡ drop l.count l.initial.reach) × Resolved l.book l.d l.p l.rights l.scopes l.q l.who l.k l.reach
