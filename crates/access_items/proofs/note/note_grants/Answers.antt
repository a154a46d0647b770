use Prim.Native.Nat.{◌+◌}
use mathlib.Core.Path.{ap, ◌∙◌}
use lib.ListN.{get_or}
use Rattle.permission_sheet.specs.Noted.{PERMISSIONS}
use Rattle.access_items.specs.Note.{permitted, grants_noted}
use Rattle.access_items.proofs.note.note_grants.Goals as goal

pub returns : goal.returns
unfolding grants_noted
returns c = let A = c.args in c.note_permissions.ensures ∙ ap (permitted 6 (get_or A.rights.now (A.at + PERMISSIONS) 0) A.place) c.mark.ensures
