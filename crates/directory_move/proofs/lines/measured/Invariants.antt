use Prim.Native.Nat.{◌-◌}
use lib.ListN.{length}
use Rattle.directory_move.specs.Laws.Rewritten.{Measured}
use Rattle.directory_move.proofs.lines.measured.Given as goal

abbrev pub invariant-loop-line : goal.invariant-loop-line
invariant-loop-line l = Measured l.w l.v l.s l.n l.at

abbrev pub decreases-loop-line : goal.decreases-loop-line
decreases-loop-line l = length l.s - l.at
