-- No run begins before `2 * q`.
use Rattle.std.proofs.Common.{◌≡◌, ◌*◌, drop}
use Rattle.value_blank.specs.Blank.{has_run}
use Rattle.value_blank.proofs.run.Given as goal

abbrev pub invariant-loop-q : goal.invariant-loop-q
invariant-loop-q l = has_run (drop (2 * l.q) l.v) ≡ has_run l.v
