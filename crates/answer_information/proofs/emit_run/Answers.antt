use native.Mathlib.Omega.{arith}
use mathlib.Core.Path.{sym, ◌∙◌}
use Rattle.rules.specs.Directory.{name_at}
use Rattle.tables.specs.Book.{width}
use Rattle.answer_information.specs.Laws.Runs.{returned-values, returned-type, returned-not}
use Rattle.answer_information.specs.Laws.Rows.{there, ranked, type-number}
use Rattle.tables.specs.Laws.Choice.{known-choice}
use Rattle.answer_line.specs.Laws.Emit.{emits_none, emits-same, emits-length}
use Rattle.answer_information.specs.Information.{held_by}
use Rattle.answer_information.proofs.emit_run.Goals as goal

pub shown-requires : goal.shown-requires
shown-requires c = let P = c.requires in let X = P.1 in (X.some, known-choice P.0 _ X.entry _ X.rank P.3)

pub emit_readable-requires : goal.emit_readable-requires
emit_readable-requires c = let P = c.requires in (P.0, P.1, P.2)

pub returns-then-choice : goal.returns-then-choice
returns-then-choice c = let X = c.requires.1 in
    let a = c.args in
    let p = c.emit_readable.ensures in (
      p.0,
      λ σ es s W C. emits-same (width a.book.now) a.out.now a.at
          (returned-values σ s (name_at es a.e) (held_by a.d.now a.book.now a.held.now a.run) (sym (c.shown.ensures σ es a.d.now a.p.now a.book.now a.held.now s W C (there W.entries a.e X.some X.entry) (ranked W.entries a.run.rank X.rank)) ∙ c.if-shown.true) (sym C.values ∙ c.if-choice.true)) (p.1 σ es W),
    )

pub overflow_add-rank : goal.overflow_add-rank
overflow_add-rank c = omega (arith, c.requires.1.rank, c.requires.0.2.entries.fits.few-types)

pub offset_bounds-book-rank : goal.offset_bounds-book-rank
offset_bounds-book-rank c = omega (arith, c.requires.1.rank, c.requires.0.2.entries.fits.few-types)

pub bounds-book-rank : goal.bounds-book-rank
bounds-book-rank c = omega (arith, c.requires.1.rank, c.requires.0.2.entries.fits.few-types)

pub emit-requires : goal.emit-requires
emit-requires c = let P = c.requires in let F = P.0.2.entries.fits in (omega (arith, F.narrow), F.wide, omega (arith, P.2))

pub returns-then-shown : goal.returns-then-shown
returns-then-shown c = let X = c.requires.1 in
    let a = c.args in
    let p = c.emit.ensures in (
      omega (arith, emits-length _ _ _ _ p, c.requires.0.2.entries.fits.wide),
      λ σ es s W C. emits-same (width a.book.now) a.out.now a.at
          (returned-type σ s (name_at es a.e) (held_by a.d.now a.book.now a.held.now a.run) (sym (c.shown.ensures σ es a.d.now a.p.now a.book.now a.held.now s W C (there W.entries a.e X.some X.entry) (ranked W.entries a.run.rank X.rank)) ∙ c.if-shown.true) (sym C.values ∙ c.if-choice.false) _
          (type-number W.entries a.run.rank X.rank)) p,
    )

pub returns : goal.returns
returns c = let X = c.requires.1 in
    let a = c.args in (
      omega arith,
      λ σ es s W C. emits-same (width a.book.now) a.out.now a.at
          (returned-not σ s (name_at es a.e) (held_by a.d.now a.book.now a.held.now a.run) (sym (c.shown.ensures σ es a.d.now a.p.now a.book.now a.held.now s W C (there W.entries a.e X.some X.entry) (ranked W.entries a.run.rank X.rank)) ∙ c.if-shown.false)) (emits_none (width a.book.now) a.out.now a.at),
    )
