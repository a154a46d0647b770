-- The pieces from here fit where all fit; none is left at the last line.
use mathlib.Core.Path.{◌≡◌}
use Prim.Native.Nat.{◌-◌}
use Rattle.filter_lines.specs.Lines.{pieces_in}
use Rattle.filter_lines.specs.Laws.Pieces.{pieces_from, all_fit}
use Rattle.filter_lines.proofs.pieces.pieces_fit.Given as goal

abbrev pub invariant-loop-j : goal.invariant-loop-j
invariant-loop-j l = all_fit l.syntax (pieces_in l.q l.rows l.j (l.j-end - l.j)) ≡ all_fit l.syntax (pieces_from l.q l.rows l.lines l.k l.n)
