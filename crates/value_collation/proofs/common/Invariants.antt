-- The invariant: the bytes passed are shared.
use Rattle.rules.specs.Value.{folded}
use Rattle.value_collation.specs.Compare.{Shared}
use Rattle.value_collation.proofs.common.Given as goal

abbrev pub invariant-loop-i : goal.invariant-loop-i
invariant-loop-i l = Shared (folded l.syntax l.v) (folded l.syntax l.w) l.n l.i
