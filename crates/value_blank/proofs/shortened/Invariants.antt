-- What is left after `i` fills the text up as the whole does.
use Rattle.std.proofs.Common.{◌≡◌, drop}
use Rattle.rules.specs.Value.{shorten}
use Rattle.value_blank.specs.Laws.Text.{filled, none}
use Rattle.value_blank.proofs.shortened.Given as goal

abbrev pub invariant-loop-i : goal.invariant-loop-i
invariant-loop-i l = filled l.t (shorten (drop l.i l.v)) ≡ filled none (shorten l.v)
