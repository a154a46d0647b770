-- No alias, no line, another line, or the parts that a K 36 line counts.
use borrow.Author.Tests.{not-true, not-false}
use mathlib.Core.Path.{refl, sym, ap, ◌∙◌}
use Rattle.std.proofs.lemmas.Result.{err_from_is_err_and}
use Rattle.rules.proofs.Laws.Refusals.{refusal-some}
use Rattle.directory_alias.specs.Target.{target_refused}
use Rattle.directory_alias.specs.Laws.Target.{answer-none, answer-absent, answer-stray}
use Rattle.directory_alias.proofs.target.Goals as goal

pub returns-then-not-e : goal.returns-then-not-e
returns-then-not-e c =
    let A = c.args in
    answer-none A.f A.s.now A.schema.now A.e (not-true _ c.if-not-e.true)

pub returns-in_default : goal.returns-in_default
returns-in_default c =
    let A = c.args in
    answer-absent A.f A.s.now A.schema.now A.e (not-false _ c.if-not-e.false) (ap target_refused c.absent.ensures) (c.in_default.not-Line)

pub returns-in_err-stray : goal.returns-in_err-stray
returns-in_err-stray c =
    let A = c.args in
    let p = err_from_is_err_and c.from_residual.result c.from_residual.ensures.1 in
    rw (p.1, p.2) (answer-stray A.f A.s.now A.schema.now A.e (not-false _ c.if-not-e.false) c.in-Line.is _ c.in_err-stray.ensures (refusal-some _) refl)

pub parts-requires : goal.parts-requires
parts-requires c =
    let a = c.requires in
    record {
      asked = a;
      alias = not-false _ c.if-not-e.false;
      taken = sym a.owed.stands ∙ c.in-Line.is;
      due = sym c.in_ok-stray.ensures;
    }
