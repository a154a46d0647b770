-- The columns of the entries are filled together, number by number; at the end they are `filled`.
use Prim.Native.Nat.{◌≤◌}
use mathlib.Core.Path.{◌≡◌}
use Rattle.directory_book.specs.Laws.Put.{entered}
use Rattle.directory_book.specs.Laws.Filled.{book_columns}
use Rattle.directory_book.proofs.note.Given as goal

abbrev pub invariant-loop-k : goal.invariant-loop-k
invariant-loop-k l = (l.count ≤ 256) × (l.book ≡ entered (book_columns l.f.width l.notes) l.k l.initial.book)
