-- The types before the position are noted.
use Rattle.directory_schema.specs.Types.{TypesRead}
use lib.ListN.{length}
use Prim.Native.Nat.{◌-◌}
use Rattle.directory_schema.proofs.types.Given as goal

abbrev pub invariant-loop-line : goal.invariant-loop-line
invariant-loop-line l = TypesRead l.f l.s l.schema l.n l.last l.at

abbrev pub decreases-loop-line : goal.decreases-loop-line
decreases-loop-line l = length l.s - l.at
