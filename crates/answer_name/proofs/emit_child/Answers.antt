use lib.ListN.{get_or}
use Rattle.rules.specs.Directory.{blank}
use Rattle.tables.specs.Book.{width}
use Rattle.answer_name.specs.Laws.Name.{mark-emits}
use Rattle.answer_name.proofs.emit_child.Goals as goal

pub mark-c-requires : goal.mark-c-requires
mark-c-requires c = let P = c.requires in (P.2, P.0.3.fits.few-entries)

pub returns : goal.returns
returns c =
    let a = c.args in
    let p = c.emit_part.ensures in
    (p.0, λ σ es held E. mark-emits (width a.book.now) a.out.now a.at 32 (get_or es a.k blank) (c.mark-c.ensures σ es a.d.now held E) (p.1 σ es held E))
