use mathlib.Core.Path.{◌≡◌}
use Rattle.access_items.specs.Note.{permitted}
use Rattle.access_items.proofs.note.note_permissions.Given as goal

abbrev pub invariant-loop-b : goal.invariant-loop-b
invariant-loop-b l = l.sets ≡ permitted l.b l.mask l.place l.initial.sets
