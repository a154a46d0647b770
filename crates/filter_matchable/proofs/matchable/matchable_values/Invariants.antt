use mathlib.Core.Path.{◌≡◌}
use lib.ListN.{length}
use Prim.Native.Nat.{◌-◌}
use mathlib.Core.List.{List}
use Rattle.rules.specs.Directory.{Stored}
use Rattle.rules.specs.Decision.{Setting}
use Rattle.tables.specs.World.{World}
use Rattle.filter_matchable.specs.Matchable.{MatchableValues}
use Rattle.filter_matchable.specs.Laws.Matchable.{Blank}
use Rattle.filter_matchable.proofs.matchable.matchable_values.Given as goal

abbrev pub invariant-loop-i : goal.invariant-loop-i
invariant-loop-i l = (length l.values ≡ 34) × Blank l.values (l.i - l.first) × ((σ : Setting) (es : List Stored) → World σ es l.d l.p l.book l.held l.sets → MatchableValues σ es l.d l.book l.held l.k l.asked l.i l.values)
