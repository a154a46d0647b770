use Rattle.answer_line.specs.Laws.Emit.{emits-length, emits_none}
use native.Mathlib.Omega.{arith}
use Rattle.rules.specs.declared.Outcome.TheVariants.{Result, NoSuchObject, InsufficientAccessRights, NoSuchAttributeOrValue, InvalidAttributeSyntax, AliasProblem}
use Rattle.tables.specs.Book.{width}
use Rattle.answer_print.specs.Laws.Lines.{whole}
use Rattle.answer_print.proofs.print.Goals as goal

pub emit-next-requires : goal.emit-next-requires
emit-next-requires c = let F = c.requires.0.2.entries.fits in (omega (arith, F.narrow), F.wide, omega arith)

pub emit_success-requires : goal.emit_success-requires
emit_success-requires c = let P = c.requires in
    let a = c.args in
    let h = emits-length _ _ _ _ c.emit-next.ensures in
    let w = P.0.2.entries.fits.wide in
    (P.0, P.1, omega (arith, h, w), P.2)

pub emit_name-requires : goal.emit_name-requires
emit_name-requires c = let P = c.requires in
    let a = c.args in
    let h = emits-length _ _ _ _ c.emit-next.ensures in
    let w = P.0.2.entries.fits.wide in
    ((P.0.0, P.0.1, a.held.now, P.0.2.entries), omega (arith, h, w), P.1.name)

pub returns-in-Result : goal.returns-in-Result
returns-in-Result c = let a = c.args in λ σ es s W C. whole σ es s (width a.book.now) a.out.now 0 a.plan a.hits.now Result c.in-Result.is c.outcome_number.ensures c.emit-next.ensures (c.emit_success.ensures σ es s W C)

pub returns-in-NoSuchObject : goal.returns-in-NoSuchObject
returns-in-NoSuchObject c = let a = c.args in λ σ es s W C. whole σ es s (width a.book.now) a.out.now 0 a.plan a.hits.now NoSuchObject c.in-NoSuchObject.is c.outcome_number.ensures c.emit-next.ensures (c.emit_name.ensures.1 σ es a.held.now W.entries)

pub returns-in-InsufficientAccessRights : goal.returns-in-InsufficientAccessRights
returns-in-InsufficientAccessRights c = let a = c.args in λ σ es s W C. whole σ es s (width a.book.now) a.out.now 0 a.plan a.hits.now InsufficientAccessRights c.in-InsufficientAccessRights.is c.outcome_number.ensures c.emit-next.ensures (emits_none (width a.book.now) _ _)

pub returns-in-NoSuchAttributeOrValue : goal.returns-in-NoSuchAttributeOrValue
returns-in-NoSuchAttributeOrValue c = let a = c.args in λ σ es s W C. whole σ es s (width a.book.now) a.out.now 0 a.plan a.hits.now NoSuchAttributeOrValue c.in-NoSuchAttributeOrValue.is c.outcome_number.ensures c.emit-next.ensures (emits_none (width a.book.now) _ _)

pub returns-in-InvalidAttributeSyntax : goal.returns-in-InvalidAttributeSyntax
returns-in-InvalidAttributeSyntax c = let a = c.args in λ σ es s W C. whole σ es s (width a.book.now) a.out.now 0 a.plan a.hits.now InvalidAttributeSyntax c.in-InvalidAttributeSyntax.is c.outcome_number.ensures c.emit-next.ensures (emits_none (width a.book.now) _ _)

pub returns-in-AliasProblem : goal.returns-in-AliasProblem
returns-in-AliasProblem c = let a = c.args in λ σ es s W C. whole σ es s (width a.book.now) a.out.now 0 a.plan a.hits.now AliasProblem c.in-AliasProblem.is c.outcome_number.ensures c.emit-next.ensures (emits_none (width a.book.now) _ _)
