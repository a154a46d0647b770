-- What comes next from `i` on fills the text up as the whole does.
use Prim.Native.Nat.{◌-◌, ◌≤◌}
use mathlib.Core.Path.{◌≡◌}
use mathlib.Core.Bool.{true, false}
use lib.ListN.{length, drop}
use Rattle.rules.specs.Value.{tidied}
use Rattle.rules.specs.Derived.{words}
use Rattle.value_blank.specs.Laws.Text.{filled, none}
use Rattle.value_blank.proofs.tidied.Given as goal

abbrev pub invariant-loop-b : goal.invariant-loop-b
invariant-loop-b l = (l.i ≤ length l.v) × (filled l.t (words true false (drop l.i l.v)) ≡ filled none (tidied l.v))

abbrev pub decreases-loop-b : goal.decreases-loop-b
decreases-loop-b l = length l.v - l.i
