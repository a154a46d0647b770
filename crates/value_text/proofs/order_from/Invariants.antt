-- What is left from `i` and `j` on is ordered as the whole.
use Prim.Native.Nat.{◌-◌, ◌≤◌}
use mathlib.Core.Path.{◌≡◌}
use lib.ListN.{length}
use Rattle.rules.specs.Value.{order_bytes}
use Rattle.value_text.specs.Walk.{left}
use Rattle.value_text.proofs.order_from.Given as goal

abbrev pub invariant-loop-a : goal.invariant-loop-a
invariant-loop-a l = (l.i ≤ length l.v) × (l.j ≤ length l.w) × (order_bytes (left l.v l.i) (left l.w l.j) ≡ order_bytes (left l.v l.i-2) (left l.w l.j-2))

abbrev pub decreases-loop-a : goal.decreases-loop-a
decreases-loop-a l = length l.v - l.i
