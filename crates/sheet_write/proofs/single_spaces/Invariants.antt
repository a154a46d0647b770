-- Once spaces stand before `i` too, all are written.
use Prim.Native.Nat.{◌≤◌}
use mathlib.Core.Path.{◌≡◌}
use lib.ListN.{length}
use Rattle.rules.specs.Sheet.{leading}
use Rattle.rules.specs.Derived.{put_at}
use Rattle.sheet_write.proofs.single_spaces.Given as goal

abbrev pub invariant-loop-i : goal.invariant-loop-i
invariant-loop-i l = (l.i ≤ l.w) × (length l.out ≡ length l.initial.out) × (put_at l.out l.at (leading l.i 0) ≡ put_at l.initial.out l.at (leading l.w 0))
