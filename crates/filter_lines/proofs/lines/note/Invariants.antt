-- The rows so far are the lines up to here; each line has at least the bytes of its columns, so that there is room for the next.
use Prim.Native.Nat.{◌+◌, ◌-◌, ◌*◌, ◌≤◌}
use mathlib.Core.Path.{◌≡◌}
use lib.ListN.{length}
use Rattle.filter_lines.specs.Lines.{LINES, FILTER, Beyond}
use Rattle.filter_lines.specs.Laws.Lines.{Noting}
use Rattle.filter_lines.proofs.lines.note.Given as goal

abbrev pub invariant-loop-x : goal.invariant-loop-x
invariant-loop-x l = (length l.rows ≡ FILTER) × (l.n ≤ LINES) × (l.n * (5 * l.w + 1) ≤ l.j) × Noting l.schema l.w l.q l.rows l.at l.n l.j × Beyond l.n l.initial.rows l.rows

abbrev pub decreases-loop-x : goal.decreases-loop-x
decreases-loop-x l = length l.q - l.j
