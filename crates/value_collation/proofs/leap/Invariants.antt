-- The invariant is the contract: four identical bytes are four shared ones.
use Rattle.std.proofs.Common.{◌*◌}
use Rattle.rules.specs.Value.{folded}
use Rattle.value_collation.specs.Compare.{Shared}
use Rattle.value_collation.proofs.leap.Given as goal

abbrev pub invariant-loop-q : goal.invariant-loop-q
invariant-loop-q l = Shared (folded l.syntax l.v) (folded l.syntax l.w) l.n (4 * l.q)
