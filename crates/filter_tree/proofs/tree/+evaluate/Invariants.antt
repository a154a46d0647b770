-- The depth left falls; the parts from here are the parts from the start.
use Prim.Native.Nat.{ℕ, ◌-◌, ◌≤◌}
use mathlib.Core.Path.{◌≡◌}
use Rattle.rules.specs.Sheet.{Bytes}
use Rattle.rules.specs.Filter.{Assertion}
use Rattle.rules.specs.Places.{lines_at}
use Rattle.tables.specs.FilterLines.{parts_from, evaluate_lines}
use Rattle.filter_lines.specs.Lines.{LinesNoted, position_at}
use Rattle.filter_truth.specs.Join.{join_by}
use Rattle.filter_tree.specs.Truths.{Truths}
use Rattle.rules.specs.declared.Truth.{Truth}
use Rattle.filter_tree.proofs.tree.+evaluate.Given as goal

abbrev pub decreases-evaluate : goal.decreases-evaluate
decreases-evaluate l = l.depth

abbrev pub invariant-loop-i : goal.invariant-loop-i
invariant-loop-i l =
    (l.next ≤ l.lines) × ((w : ℕ) (q : Bytes) (m : Assertion → Truth) → LinesNoted w q l.rows l.lines → Truths m q l.rows l.lines l.lines l.truths
    → parts_from (join_by l.edition l.conjunction) (evaluate_lines l.edition m (l.depth - 1)) (l.parts - l._i) l.truth (lines_at w q (position_at l.rows l.next)) ≡ evaluate_lines l.edition m l.depth (lines_at w q (position_at l.rows l.k)))
