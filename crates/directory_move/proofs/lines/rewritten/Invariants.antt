use Prim.Native.Nat.{◌-◌}
use lib.ListN.{length}
use Rattle.sheet_write.specs.Laws.Writing.{Writing}
use Rattle.directory_move.specs.Rewritten.{rewritten_from}
use Rattle.directory_move.proofs.lines.rewritten.Given as goal

abbrev pub invariant-loop-line : goal.invariant-loop-line
invariant-loop-line l = Writing l.initial.out 0 (rewritten_from l.w l.v l.s 0) l.out l.to (rewritten_from l.w l.v l.s l.at)

abbrev pub decreases-loop-line : goal.decreases-loop-line
decreases-loop-line l = length l.s - l.at
