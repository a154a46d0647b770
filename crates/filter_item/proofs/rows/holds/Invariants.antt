use mathlib.Core.Path.{◌≡◌}
use Prim.Native.Nat.{◌-◌}
use lib.Dec.{eqb}
use Rattle.tables.specs.Held.{rank_at}
use Rattle.filter_item.specs.Rows.{some_from, held_row}
use Rattle.filter_item.proofs.rows.holds.Given as goal

abbrev pub invariant-loop-i : goal.invariant-loop-i
invariant-loop-i l = some_from (λ j. eqb (rank_at l.held j) l.sought.rank) l.i (l.sought.end - l.i) ≡ held_row l.held l.sought.first l.sought.end l.sought.rank
