-- The bytes before `4 * q`, and then before `i`, are in `h`.
use Rattle.std.proofs.Common.{◌≡◌, ◌*◌, drop}
use Rattle.value_syntax.specs.Digest.{mixed}
use Rattle.value_syntax.specs.Laws.Digest.{singly}
use Rattle.value_syntax.proofs.digest.mixed.Given as goal

abbrev pub invariant-loop-q : goal.invariant-loop-q
invariant-loop-q l = mixed l.h (drop (4 * l.q) l.v) ≡ mixed l.seed l.v

abbrev pub invariant-loop-i : goal.invariant-loop-i
invariant-loop-i l = singly l.h (drop l.i l.v) ≡ mixed l.seed l.v
