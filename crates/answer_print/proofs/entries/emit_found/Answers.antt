use native.Mathlib.Omega.{arith}
use Rattle.rules.specs.Directory.{name_at}
use Rattle.tables.specs.Book.{width}
use Rattle.tables.specs.Plan.{information_at}
use Rattle.rules.specs.Answer.{entry_lines}
use Rattle.answer_line.specs.Laws.Emit.{emits-append}
use Rattle.answer_print.proofs.entries.emit_found.Goals as goal

pub emit_entry-next-requires : goal.emit_entry-next-requires
emit_entry-next-requires c = let P = c.requires in let W = P.0.2 in ((P.0.0, P.0.1, c.args.held.now, W.entries), omega (arith, P.1), P.2)

pub emit_information-requires : goal.emit_information-requires
emit_information-requires c = let P = c.requires in (P.0, P.3, omega (arith, P.1, c.emit_entry-next.ensures.0), P.4)

pub returns : goal.returns
returns c = let a = c.args in
    let p = c.emit_entry-next.ensures in
    let q = c.emit_information.ensures in
    (omega (arith, p.0, q.0), λ σ es s W C. emits-append (width a.book.now) a.out.now a.at (entry_lines (name_at es a.name)) (information_at σ es s a.e) (p.1 σ es a.held.now W.entries) (q.1 σ es s W C))
