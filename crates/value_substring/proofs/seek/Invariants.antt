-- The invariant: no such byte has been passed.
use Rattle.rules.specs.Value.{text, folded}
use Rattle.value_substring.specs.Pieces.{Sought}
use Rattle.value_substring.proofs.seek.Given as goal

abbrev pub invariant-loop-i : goal.invariant-loop-i
invariant-loop-i l = Sought l.b (folded text l.v) l.from l.i
