use mathlib.Core.Path.{refl}
use Rattle.access_items.specs.Note.{items_noted}
use Rattle.access_items.specs.Laws.Items.{items_more}
use Rattle.access_items.proofs.note_items.Goals as goal

pub loop-j-init : goal.loop-j-init
unfolding items_noted
loop-j-init c = refl

pub loop-j-preserved : goal.loop-j-preserved
loop-j-preserved c =
    let A = c.args in
    let L = c.loop-j in
    items_more A.rights.now A.schema.now A.order.now A.sets.now L.sets _ L.j L.invariant c.note_item.ensures
