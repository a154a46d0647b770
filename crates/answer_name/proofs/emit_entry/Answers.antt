use Rattle.answer_name.specs.Laws.Name.{entry-emits}
use Rattle.answer_line.specs.Laws.Emit.{emits-length}
use Rattle.tables.specs.Book.{width}
use native.Mathlib.Omega.{arith}
use Rattle.answer_name.proofs.emit_entry.Goals as goal

pub emit_name-requires : goal.emit_name-requires
emit_name-requires c = let P = c.requires in (P.0, omega (arith, P.1, P.0.3.fits.wide, emits-length _ _ _ _ c.emit-next.ensures), P.2)

pub returns : goal.returns
returns c = let P = c.requires in
    let a = c.args in
    let p = c.emit-next.ensures in
    let q = c.emit_name.ensures in (
      omega (arith, emits-length _ _ _ _ p, P.0.3.fits.wide, P.0.3.fits.few-entries, P.2, q.0),
      λ σ es held E. entry-emits (width a.book.now) a.out.now a.at _ _ (c.depth-parts.ensures σ es a.d.now held E) p (q.1 σ es held E),
    )
