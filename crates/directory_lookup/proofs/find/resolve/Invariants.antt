-- The way from here, by the parts that are left, leads where the whole way does.
use Prim.Native.Nat.{◌-◌, ◌≤◌}
use Rattle.tables.specs.Book.{entry_count}
use Rattle.directory_lookup.specs.Laws.Find.{Led}
use Rattle.directory_lookup.proofs.find.resolve.Given as goal

abbrev pub invariant-loop-k : goal.invariant-loop-k
invariant-loop-k l = (l.from ≤ entry_count l.book) × Led l.book l.d l.s l.i l.n l.from l.j (l.n - l._k)
