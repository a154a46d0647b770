use Prim.Native.Nat.{ℕ, ◌≤◌}
use mathlib.Core.List.{List}
use lib.ListN.{length}
use Rattle.rules.specs.Sheet.{Bytes}
use Rattle.rules.specs.Directory.{Stored}
use Rattle.rules.specs.Decision.{Setting}
use Rattle.tables.specs.Book.{schema}
use Rattle.tables.specs.World.{World}
use Rattle.filter_matchable.specs.Matchable.{MatchableTypes}
use Rattle.filter_matchable.specs.Laws.Matchable.{Clear}
use Rattle.filter_matchable.proofs.matchable.matchable_types.Given as goal

abbrev pub invariant-loop-r : goal.invariant-loop-r
invariant-loop-r l = Clear l.x l.r × ((σ : Setting) (es : List Stored) (d p : Bytes) (book held : List ℕ) → World σ es d p book held l.sets → l.e ≤ length es → l.n ≤ length (schema book) → MatchableTypes σ es book l.e l.asked l.r l.x)
