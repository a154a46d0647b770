use Rattle.std.specs.Prelude.{◌-◌, ◌≤◌, length}
use Rattle.ask.proofs.read.Given as goal

abbrev pub invariant-loop-length : goal.invariant-loop-length
invariant-loop-length g l = l.length ≤ length l.initial.sheet

abbrev pub decreases-loop-length : goal.decreases-loop-length
decreases-loop-length g l = length l.initial.sheet - l.length
