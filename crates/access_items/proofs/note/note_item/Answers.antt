use Prim.Native.Nat.{◌+◌}
use mathlib.Core.Path.{ap, ◌∙◌}
use lib.ListN.{get_or}
use Rattle.permission_sheet.specs.Noted.{TYPE}
use Rattle.access_items.specs.Note.{about_noted, type_noted, value_noted, item_noted}
use Rattle.access_items.proofs.note.note_item.Goals as goal

pub returns : goal.returns
unfolding item_noted
returns c =
    let A = c.args in
    c.note_value.ensures ∙ ap (value_noted A.rights.now A.at A.place)
    (c.note_type.ensures ∙ ap (type_noted A.schema.now (get_or A.rights.now (A.at + TYPE) 0) A.place)
    (c.note_about.ensures ∙ ap (about_noted A.rights.now A.at A.place) c.note_grants.ensures))
