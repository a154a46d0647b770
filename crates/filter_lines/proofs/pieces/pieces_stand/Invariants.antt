-- The pieces from here stand in what is left of the text where all stand in it; none is left at the last line.
use mathlib.Core.Path.{◌≡◌}
use Prim.Native.Nat.{◌-◌, ◌≤◌}
use lib.ListN.{length}
use Rattle.filter_lines.specs.Lines.{pieces_in, pieces_stand}
use Rattle.filter_lines.specs.Laws.Pieces.{pieces_from, stand_from}
use Rattle.filter_lines.proofs.pieces.pieces_stand.Given as goal

abbrev pub invariant-loop-j : goal.invariant-loop-j
invariant-loop-j l = (l.from ≤ length l.v) × (stand_from l.v l.from (pieces_in l.q l.rows l.j (l.j-end - l.j)) ≡ pieces_stand l.v (pieces_from l.q l.rows l.lines l.k l.n))
