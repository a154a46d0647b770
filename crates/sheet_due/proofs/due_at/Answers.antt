-- By what was taken, then by the tests of a line; a line that was taken fits the sheet.
use mathlib.Core.Path.{refl, sym, ◌∙◌}
use native.Mathlib.Omega.{arith}
use borrow.Author.Tests.{not-true, not-false}
use Rattle.sheet_line.specs.Laws.{taken-fits-line}
use Rattle.sheet_due.specs.Lines.{seen_at, due_at}
use Rattle.std.proofs.lemmas.Result.{err_from_is_err_and}
use Rattle.rules.specs.Places.{schema_of}
use Rattle.sheet_kind.specs.Kinds.{number_of}
use Rattle.sheet_due.specs.Grammars.{grammar_of}
use Rattle.sheet_due.specs.Laws.Outcomes.{due-handed}
use Rattle.sheet_due.proofs.due_at.Goals as goal

pub returns-in_err-at : goal.returns-in_err-at
returns-in_err-at c =
    let A = c.args in
    let p = err_from_is_err_and c.from_residual.result c.from_residual.ensures.1 in
    rw (p.1, p.2, c.in_err-at.was) (due-handed (grammar_of A.f.top (schema_of A.schema.now) A.g) A.f.width A.s.now c.in_err-at.field-0.0 (number_of A.kind))

pub returns-then-not-in_form : goal.returns-then-not-in_form
unfolding due_at seen_at
returns-then-not-in_form c = rw (c.in_ok-at.was, sym c.taken_at.ensures ∙ c.in-Line.is, sym c.in_form.ensures ∙ not-true _ c.if-not-in_form.true-raw) c.refused.ensures

pub returns-then-not-is : goal.returns-then-not-is
unfolding due_at seen_at
returns-then-not-is c = rw (c.in_ok-at.was, sym c.taken_at.ensures ∙ c.in-Line.is, sym c.in_form.ensures ∙ not-false _ c.if-not-in_form.false-raw, sym c.is.ensures ∙ not-true _ c.if-not-is.true-raw) c.refused-then-not-is.ensures

pub sound-requires : goal.sound-requires
sound-requires c = let f = taken-fits-line c.args.f.width c.args.s.now _ (sym c.taken_at.ensures ∙ c.in-Line.is) in omega (arith, f.next, f.within)

pub returns-then-sound : goal.returns-then-sound
unfolding due_at seen_at
returns-then-sound c = rw (c.in_ok-at.was, sym c.taken_at.ensures ∙ c.in-Line.is, sym c.in_form.ensures ∙ not-false _ c.if-not-in_form.false-raw, sym c.is.ensures ∙ not-false _ c.if-not-is.false-raw, sym c.sound.ensures ∙ c.if-sound.true) (refl, refl)

pub returns-else-sound : goal.returns-else-sound
unfolding due_at seen_at
returns-else-sound c = rw (c.in_ok-at.was, sym c.taken_at.ensures ∙ c.in-Line.is, sym c.in_form.ensures ∙ not-false _ c.if-not-in_form.false-raw, sym c.is.ensures ∙ not-false _ c.if-not-is.false-raw, sym c.sound.ensures ∙ c.if-sound.false) c.refused-in-Line.ensures

pub returns-in-NotInForm : goal.returns-in-NotInForm
unfolding due_at seen_at
returns-in-NotInForm c = rw (c.in_ok-at.was, sym c.taken_at.ensures ∙ c.in-NotInForm.is) c.refused-in-NotInForm.ensures

pub returns-in-End : goal.returns-in-End
unfolding due_at seen_at
returns-in-End c = rw (c.in_ok-at.was, sym c.taken_at.ensures ∙ c.in-End.is) c.refused-in-End.ensures
