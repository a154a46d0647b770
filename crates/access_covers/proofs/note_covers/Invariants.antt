use mathlib.Core.Path.{◌≡◌}
use Rattle.access_covers.specs.Noted.{covers_to}
use Rattle.access_covers.proofs.note_covers.Given as goal

abbrev pub invariant-loop-k : goal.invariant-loop-k
invariant-loop-k l = l.sets ≡ covers_to l.parents l.k l.initial.sets
