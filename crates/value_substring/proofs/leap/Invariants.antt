-- The invariant is the contract: four other bytes are passed at a time.
use Rattle.std.proofs.Common.{◌+◌, ◌*◌}
use Rattle.rules.specs.Value.{text, folded}
use Rattle.value_substring.specs.Pieces.{Sought}
use Rattle.value_substring.proofs.leap.Given as goal

abbrev pub invariant-loop-q : goal.invariant-loop-q
invariant-loop-q l = Sought l.b (folded text l.v) l.from (l.from + 4 * l.q)
