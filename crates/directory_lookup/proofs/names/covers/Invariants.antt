-- The names from here compare as the whole names do; a part of each is taken at a time.
use Prim.Native.Nat.{◌-◌}
use mathlib.Core.Path.{◌≡◌}
use Rattle.rules.specs.Name.{covers}
use Rattle.rules.specs.Places.{schema_of, lines_at, parts_of}
use Rattle.tables.specs.Book.{width, schema}
use Rattle.directory_lookup.proofs.names.covers.Given as goal

abbrev pub invariant-loop-a : goal.invariant-loop-a
invariant-loop-a l =
    covers (schema_of l.types) (parts_of (l.n - l.a) (lines_at l.w l.s l.k)) (parts_of (l.m - l.a) (lines_at l.w l.t l.l)) ≡ covers (schema_of (schema l.book)) (parts_of l.n (lines_at (width l.book) l.s l.i)) (parts_of l.m (lines_at (width l.book) l.t l.j))
