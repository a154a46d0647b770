use mathlib.Core.Path.{◌≡◌}
use Rattle.access_items.specs.Note.{items_noted}
use Rattle.access_items.proofs.note_items.Given as goal

abbrev pub invariant-loop-j : goal.invariant-loop-j
invariant-loop-j l = l.sets ≡ items_noted l.rights l.schema l.order l.j l.initial.sets
