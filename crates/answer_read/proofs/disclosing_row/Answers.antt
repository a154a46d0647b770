use Rattle.std.proofs.Common.{arith, ◌+◌, ◌≤◌, ◌<◌, length, get_or, sym, ◌∙◌}
use Rattle.rules.specs.Directory.{blank}
use Rattle.rules.specs.Decision.{of_type}
use Rattle.rules.specs.Permission.{DiscloseOnError}
use Rattle.tables.specs.Book.{schema}
use Rattle.tables.specs.Held.{rank_at, type_at}
use Rattle.tables.specs.Laws.Book.{schema-length}
use Rattle.tables.specs.Laws.World.{known-types, inside, rows-within, rank-within}
use Rattle.answer_read.specs.Laws.Read.{granted-next, undisclosing, disclosing-asked}
use Rattle.answer_read.proofs.disclosing_row.Goals as goal

pub chosen-requires : goal.chosen-requires
chosen-requires c = let A = c.args in let E = c.requires.0.2.2.entries in omega (arith, rank-within E A.k c.requires.1 A.i c.requires.2 c.requires.3, E.fits.few-types)

pub may_type-requires : goal.may_type-requires
may_type-requires c = let A = c.args in (omega arith, known-types c.requires.0.2 _ (omega (arith, c.requires.1)) _ (rank-within c.requires.0.2.2.entries A.k c.requires.1 A.i c.requires.2 c.requires.3))

pub returns-then-chosen : goal.returns-then-chosen
returns-then-chosen c = let A = c.args in let b = A.book.now in let k = A.k in let r = rank_at A.held.now A.i in λ σ es s d p w ch.
    let t = type_at (schema b) r in
    let l : k + 1 ≤ length es = omega (arith, inside w.entries k c.requires.1) in
    let rl : r < length (schema b) = omega (arith, rank-within w.entries k c.requires.1 A.i c.requires.2 c.requires.3, schema-length w.entries.fits) in
    c.may_type.ensures σ es d p b A.held.now w l rl ∙ granted-next σ es k (of_type t) DiscloseOnError ∙ disclosing-asked σ s (get_or es k blank).name t (sym (ch.ranks r rl) ∙ sym c.chosen.ensures ∙ c.if-chosen.true)

pub returns : goal.returns
returns c = let A = c.args in let b = A.book.now in let k = A.k in let r = rank_at A.held.now A.i in λ σ es s d p w ch.
    let rl : r < length (schema b) = omega (arith, rank-within w.entries k c.requires.1 A.i c.requires.2 c.requires.3, schema-length w.entries.fits) in
    undisclosing σ s (get_or es k blank).name (type_at (schema b) r) (sym (ch.ranks r rl) ∙ sym c.chosen.ensures ∙ c.if-chosen.false)
