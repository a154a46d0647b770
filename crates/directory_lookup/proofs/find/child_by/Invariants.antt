use Rattle.directory_lookup.specs.Laws.Find.{ChildSought}
use Rattle.directory_lookup.proofs.find.child_by.Given as goal

abbrev pub invariant-loop-i : goal.invariant-loop-i
invariant-loop-i l = ChildSought l.book l.d l.parent l.t l.s l.v l.i
