-- Refusals in their order: those of the sheet, a type above, a length.
use Prim.Native.Nat.{◌-◌}
use mathlib.Core.Path.{◌≡◌, refl, sym, ◌∙◌}
use native.Mathlib.Omega.{arith}
use lib.ListN.{take}
use Rattle.rules.specs.Name.{Schema}
use Rattle.rules.specs.Places.{schema_of}
use Rattle.rules.proofs.Laws.Theorems.{refused-sheet}
use Rattle.directory_sheet.specs.declared.Notes.{Notes}
use Rattle.directory_sheet.specs.Laws.Refusals.{directory-refused, directory-accepted}
use Rattle.std.proofs.lemmas.Result.{err_from_is_err_and}
use Rattle.directory_move.specs.Laws.Move.{accepted-length, type-refused, room-refused, length-refused, moved-whole}
use Rattle.directory_move.proofs.movable.Goals as goal

-- the types that are noted, as a part
whole : (r : Notes) {S : Schema} → schema_of (take r.types r.schema) ≡ S → schema_of (take (r.types - 0) r.schema) ≡ S
whole r e = let z : r.types - 0 ≡ r.types = omega arith in rw z e

pub returns-in_err-notes : goal.returns-in_err-notes
returns-in_err-notes c =
    let A = c.args in
    let p = err_from_is_err_and c.from_residual.result c.from_residual.ensures.1 in
    rw (p.1, p.2) (refused-sheet A.from A.to A.s.now A.room _ (directory-refused A.from A.s.now c.in_err-notes.ensures _ refl))

pub slice_bounds-beyond-end : goal.slice_bounds-beyond-end
slice_bounds-beyond-end c =
    let A = c.args in
    let N = directory-accepted A.from A.s.now c.in_ok-notes.ensures c.in_ok-notes.notes refl in
    omega (arith, N.2.types, N.2.schema-length)

pub returns-then-beyond : goal.returns-then-beyond
returns-then-beyond c =
    let A = c.args in
    let N = directory-accepted A.from A.s.now c.in_ok-notes.ensures c.in_ok-notes.notes refl in
    type-refused A.from A.to A.s.now A.room N.0 N.1 (whole c.in_ok-notes.notes N.2.schema) (sym c.beyond.ensures ∙ c.if-beyond.true)

pub measured-length-requires : goal.measured-length-requires
measured-length-requires c =
    let A = c.args in
    let N = directory-accepted A.from A.s.now c.in_ok-notes.ensures c.in_ok-notes.notes refl in
    (c.requires.0.most, c.requires.1.most, accepted-length A.from A.s.now N.0 N.1)

pub returns-then-room-length : goal.returns-then-room-length
returns-then-room-length c =
    let A = c.args in
    let N = directory-accepted A.from A.s.now c.in_ok-notes.ensures c.in_ok-notes.notes refl in
    room-refused A.from A.to A.s.now A.room N.0 N.1 (whole c.in_ok-notes.notes N.2.schema) (sym c.beyond.ensures ∙ c.if-beyond.false) c.measured-length.ensures c.if-room-length.true

pub returns-then-length-gt65536 : goal.returns-then-length-gt65536
returns-then-length-gt65536 c =
    let A = c.args in
    let N = directory-accepted A.from A.s.now c.in_ok-notes.ensures c.in_ok-notes.notes refl in
    length-refused A.from A.to A.s.now A.room N.0 N.1 (whole c.in_ok-notes.notes N.2.schema) (sym c.beyond.ensures ∙ c.if-beyond.false) c.measured-length.ensures c.if-room-length.false c.if-length-gt65536.true

pub returns : goal.returns
returns c =
    let A = c.args in
    let N = directory-accepted A.from A.s.now c.in_ok-notes.ensures c.in_ok-notes.notes refl in
    let m = c.measured-length.ensures in
    (m, c.if-room-length.false, moved-whole A.from A.to A.s.now A.room N.0 N.1 (whole c.in_ok-notes.notes N.2.schema) (sym c.beyond.ensures ∙ c.if-beyond.false) m c.if-room-length.false c.if-length-gt65536.false)
