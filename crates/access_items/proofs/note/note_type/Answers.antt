use Prim.Native.Nat.{ℕ, ◌+◌}
use mathlib.Core.Path.{sym, ap, ◌∙◌}
use native.Mathlib.Omega.{arith}
use Rattle.tables.specs.Sets.{type_row}
use Rattle.access_items.specs.Mark.{marked}
use Rattle.access_items.specs.Laws.Note.{type-known, type-unknown, type-none}
use Rattle.access_items.proofs.note.note_type.Goals as goal

pub returns-then-rank-schema : goal.returns-then-rank-schema
returns-then-rank-schema c =
    let A = c.args in
    let e = c.rank-rank.ensures in
    c.mark.ensures ∙ ap (λ (r : ℕ). marked A.sets.now (type_row + r) A.place 1) e
    ∙ sym (type-known A.schema.now A.t A.place A.sets.now (omega (arith, e, c.if-rank-schema.true)))

pub returns-else-rank-schema : goal.returns-else-rank-schema
returns-else-rank-schema c =
    let A = c.args in
    sym (type-unknown A.schema.now A.t A.place A.sets.now (omega (arith, c.rank-rank.ensures, c.if-rank-schema.false)))

pub returns-else-t-ne0 : goal.returns-else-t-ne0
returns-else-t-ne0 c =
    let A = c.args in
    sym (type-none A.schema.now A.t A.place A.sets.now c.requires.1 c.if-t-ne0.false)
