-- Three stores, each at its own place.
use mathlib.Core.Path.{refl}
use Rattle.access_items.specs.Note.{value_noted}
use Rattle.access_items.proofs.note.note_value.Goals as goal

pub returns : goal.returns
unfolding value_noted
returns c = refl
