-- What is due where the reader stands, or the refusal that came before.
use mathlib.Core.Path.{◌≡◌, refl, ap, ◌∙◌}
use Rattle.std.proofs.lemmas.Result.{err_from_is_err_and}
use Rattle.rules.specs.Places.{schema_of}
use Rattle.rules.specs.Refusals.{refusal_in}
use Rattle.sheet_kind.specs.Kinds.{number_of}
use Rattle.sheet_due.specs.Grammars.{grammar_of}
use Rattle.sheet_due.specs.Lines.{reached_in, due_at}
use Rattle.sheet_due.specs.Outcomes.{Due}
use Rattle.sheet_reader.specs.Advances.{from_reader}
use Rattle.sheet_reader.specs.Laws.Before.{due-before}
use Rattle.sheet_reader.proofs.Reader.due.Goals as goal

pub returns-in_err-line : goal.returns-in_err-line
returns-in_err-line c =
    let A = c.args in
    let G = grammar_of A.f.top (schema_of A.schema.now) A.g in
    let e : due_at G A.f.width A.self.sheet.now (reached_in c.and.result) (number_of A.kind) ≡ due_at G A.f.width A.self.sheet.now (from_reader A.self (refusal_in A.before)) (number_of A.kind) =
    rw c.and.ensures (due-before G A.f.width A.self A.before (number_of A.kind)) in
    let p = err_from_is_err_and c.from_residual.result c.from_residual.ensures.1 in
    rw (p.1, p.2) (c.in_err-line.ensures ∙ ap (λ (x : Due). x.refusal) e)

pub returns : goal.returns
returns c =
    let A = c.args in
    let G = grammar_of A.f.top (schema_of A.schema.now) A.g in
    let e : due_at G A.f.width A.self.sheet.now (reached_in c.and.result) (number_of A.kind) ≡ due_at G A.f.width A.self.sheet.now (from_reader A.self (refusal_in A.before)) (number_of A.kind) =
    rw c.and.ensures (due-before G A.f.width A.self A.before (number_of A.kind)) in
    let d = c.in_ok-line.ensures in
    rw (← e, d.1) (d.0, refl)
