-- The types before `i` are others, so that the rank is no lower.
use Rattle.std.proofs.Common.{◌≤◌}
use Rattle.name.specs.Schema.{rank_in}
use Rattle.name.proofs.rank.Given as goal

abbrev pub invariant-loop-i : goal.invariant-loop-i
invariant-loop-i l = l.i ≤ rank_in l.schema l.t
