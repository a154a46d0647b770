use Rattle.filter_matchable.specs.Mask.{Masks}
use Rattle.filter_matchable.proofs.mask.mask.Given as goal

abbrev pub invariant-loop-k : goal.invariant-loop-k
invariant-loop-k l = Masks l.rows l.k l.x
