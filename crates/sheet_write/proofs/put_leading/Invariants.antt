-- Once the bytes before `i` are written, with `v` left to write, all are.
use Prim.Native.Nat.{◌≤◌}
use mathlib.Core.Path.{◌≡◌}
use lib.ListN.{length}
use Rattle.rules.specs.Sheet.{leading}
use Rattle.rules.specs.Derived.{put_at}
use Rattle.sheet_write.proofs.put_leading.Given as goal

abbrev pub invariant-loop-i : goal.invariant-loop-i
invariant-loop-i l = (l.i ≤ l.w) × (length l.out ≡ length l.initial.out) × (put_at l.out l.at (leading l.i l.v) ≡ put_at l.initial.out l.at (leading l.w l.n))
