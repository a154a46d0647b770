-- The root has no lines; below it the parent's name comes first, and then the own part.
use native.Mathlib.Omega.{arith}
use Prim.Native.Nat.{◌-◌}
use Rattle.answer_name.specs.Laws.Name.{named-root, named-on}
use Rattle.tables.specs.Laws.World.{parent-falls}
use Rattle.tables.specs.Book.{width}
use Rattle.answer_name.proofs.+emit_name.Goals as goal

pub returns-then-e-eq0 : goal.returns-then-e-eq0
returns-then-e-eq0 t c = let a = c.args in (omega arith, λ σ es held E. named-root (width a.book.now) a.out.now a.at es a.e c.if-e-eq0.true)

pub returns : goal.returns
returns t c =
    let a = c.args in
    let P = c.requires in
    let g = c.if-e-eq0.false in
    let h = parent-falls P.0.3 (a.e - 1) (omega (arith, P.2, g)) in
    let p = c.emit_name-next.ensures in
    let q = c.emit_part.ensures in
    (omega (arith, h, g, p.0, q.0), λ σ es held E. named-on E a.e g P.2 (p.1 σ es held E) (q.1 σ es held E))
