-- Where the way stands, with the parts that are left, it ends as from the root.
use Prim.Native.Nat.{◌≤◌}
use Rattle.tables.specs.Book.{entry_count, width}
use Rattle.answer_resolution.specs.Resolution.{Full}
use Rattle.answer_resolution.specs.Laws.Way.{Going}
use Rattle.answer_resolution.proofs.way.way_down.Given as goal

abbrev pub invariant-loop-left : goal.invariant-loop-left
invariant-loop-left l = (l.from ≤ entry_count l.book) × (l.last ≤ entry_count l.book) × (l.left ≤ l.parts) × Full (width l.book) l.s l.j l.left × Going l.book l.sets l.d l.s l.place l.parts l.stop l.from l.last l.j l.left
