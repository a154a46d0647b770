-- The first `i` bytes are written.
use mathlib.Core.Path.{◌≡◌}
use lib.Seq.{paste}
use Rattle.sheet_write.proofs.put.Given as goal

abbrev pub invariant-loop-i : goal.invariant-loop-i
invariant-loop-i l = l.out ≡ paste l.initial.out l.at l.src l.i
