-- Blanks before `k` are passed over.
use Rattle.std.proofs.Common.{◌≡◌}
use Rattle.value_blank.specs.Blank.{skipped}
use Rattle.value_blank.proofs.skip.Given as goal

abbrev pub invariant-loop-k : goal.invariant-loop-k
invariant-loop-k l = skipped l.v l.k ≡ skipped l.v l.i
