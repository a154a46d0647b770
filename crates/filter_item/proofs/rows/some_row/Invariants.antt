-- The rows from here pass where all do, whatever function the test computes.
use mathlib.Core.Path.{◌≡◌}
use mathlib.Core.Bool.{Bool, ◌&&◌}
use Prim.Native.Nat.{◌-◌, ◌≤◌}
use lib.ListN.{length}
use Rattle.rules.specs.Sheet.{Bytes}
use Rattle.tables.specs.Held.{bytes_at}
use Rattle.filter_item.specs.Rows.{some_from, matchable_at, some_row}
use Rattle.filter_item.proofs.rows.some_row.Given as goal

abbrev pub invariant-loop-i : goal.invariant-loop-i
invariant-loop-i g l =
    (p : Bytes → Bool) → ((u : _) (b : Bool) → length u.now ≤ 64 → goal.F-post g l.test u b → b ≡ p u.now)
    → some_from (λ j. matchable_at l.held l.values l.sought.first l.sought.rank j && p (bytes_at l.d l.held j)) l.i (l.sought.end - l.i) ≡ some_row l.d l.held l.values l.sought.first l.sought.end l.sought.rank p
