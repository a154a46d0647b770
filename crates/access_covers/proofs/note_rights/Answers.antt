use Rattle.access_covers.specs.Laws.Covers.{rights-whole}
use Rattle.access_covers.proofs.note_rights.Goals as goal

pub returns : goal.returns
returns c =
    let A = c.args in
    rights-whole A.rights.now A.schema.now A.order.now A.reach.now A.parents.now A.sets.now _ _ c.note_items.ensures c.note_covers.ensures
