use mathlib.Core.Path.{sym, ap, subst}
use native.Mathlib.Omega.{arith}
use lib.ListN.{length}
use Rattle.name.specs.Schema.{Rising}
use Rattle.tables.specs.Book.{width}
use Rattle.tables.specs.Laws.Book.{schema-length}
use Rattle.access_items.specs.Laws.Items.{small-rows}
use Rattle.access_covers.specs.Laws.Covers.{within-reach, parents-rise}
use Rattle.engine.specs.Laws.Respond.{reached-of, reach-is, world-of}
use Rattle.engine.proofs.respond.note_sets.Goals as goal

pub note_rights-requires : goal.note_rights-requires
note_rights-requires c = let A = c.args in let b = A.book.now in let K = c.requires.2 in let σ = K.0 in let es = K.1 in let E = K.3 in let S = K.5 in
    let r = c.reach_all in
    let reached = reach-is σ es (width b) A.p.now A.rights.now A.scopes.now A.q.now A.who K.4 S.table _ _ S.count (r.ensures.front σ es K.2 E) in
    let R = reached-of E (width b) A.p.now A.rights.now A.scopes.now A.order.now c.parents.result.now c.parents.ensures S reached in
    let s = c.schema in
    let x = c.parents.result.now in (
      subst (Rising 0) (sym s.ensures) c.requires.1,
      omega (arith, ap length s.ensures, schema-length E.fits, E.fits.few-types),
      omega (arith, S.count, S.table.few),
      omega (arith, R.parents-noted, R.few),
      small-rows (width b) A.p.now σ.items A.rights.now A.scopes.now A.order.now S,
      within-reach σ es _ A.order.now x R,
      parents-rise σ es _ A.order.now x R,
    )

pub returns : goal.returns
returns c = let A = c.args in let b = A.book.now in λ σ es held E asker S.
    let r = c.reach_all in
    let reached = reach-is σ es (width b) A.p.now A.rights.now A.scopes.now A.q.now A.who asker S.table _ _ S.count (r.ensures.front σ es held E) in
    let R = reached-of E (width b) A.p.now A.rights.now A.scopes.now A.order.now c.parents.result.now c.parents.ensures S reached in
    let s = c.schema in
    let rights = c.note_rights in
    world-of E (width b) A.rights.now A.scopes.now A.order.now _ c.parents.result.now S R s.result.now A.sets.now _ s.ensures (subst (Rising 0) (sym s.ensures) c.requires.1) c.requires.0 rights.ensures
