use Prim.Native.Nat.{◌≤◌}
use Rattle.tables.specs.Book.{entry_count}
use Rattle.directory_lookup.specs.Laws.Climb.{Climbing}
use Rattle.directory_lookup.proofs.climb.climbs.Given as goal

abbrev pub invariant-loop-k : goal.invariant-loop-k
invariant-loop-k l = (l.k ≤ entry_count l.book) × Climbing l.book l.b l.e l.k

abbrev pub decreases-loop-k : goal.decreases-loop-k
decreases-loop-k l = l.k
