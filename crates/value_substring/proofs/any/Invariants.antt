-- The invariant: the piece stands nowhere before `i`.
use Prim.Native.Nat.{◌-◌, ◌≤◌}
use mathlib.Core.Path.{◌≡◌}
use lib.ListN.{length, drop}
use Rattle.rules.specs.Value.{text, folded, find}
use Rattle.value_substring.proofs.any.Given as goal

abbrev pub invariant-loop-i : goal.invariant-loop-i
invariant-loop-i l = (l.i ≤ length l.v) × (l.from ≤ l.i) × (find (folded text l.p) (drop l.i (folded text l.v)) (l.i - l.from) ≡ find (folded text l.p) (drop l.from (folded text l.v)) 0)

abbrev pub decreases-loop-i : goal.decreases-loop-i
decreases-loop-i l = length l.v - l.i
