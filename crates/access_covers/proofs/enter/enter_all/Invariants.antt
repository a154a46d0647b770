use mathlib.Core.Path.{◌≡◌}
use Rattle.access_covers.specs.Enter.{all_entered}
use Rattle.access_covers.proofs.enter.enter_all.Given as goal

abbrev pub invariant-loop-p : goal.invariant-loop-p
invariant-loop-p l = l.sets ≡ all_entered l.reach l.order l.p l.initial.sets
