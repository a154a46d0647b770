-- The parts counted are those below the name of the ancestor.
use Prim.Native.Nat.{◌+◌, ◌≤◌}
use Rattle.answer_name.specs.Laws.Name.{Climbed}
use Rattle.tables.specs.Book.{entry_count}
use Rattle.answer_name.proofs.depth.Given as goal

abbrev pub invariant-loop-j : goal.invariant-loop-j
invariant-loop-j l = (l.j ≤ entry_count l.book) × (l.n + l.j ≤ l.e) × Climbed l.book l.e l.n l.j

abbrev pub decreases-loop-j : goal.decreases-loop-j
decreases-loop-j l = l.j
