use mathlib.Core.Path.{sym, ◌∙◌}
use lib.ListN.{get_or}
use Rattle.rules.specs.Directory.{blank}
use Rattle.answer_read.specs.Laws.Read.{outcome-nothing, outcome-some, outcome-disclosed, outcome-hidden}
use Rattle.answer_read.proofs.outcome_of.Goals as goal

pub returns-then-choice : goal.returns-then-choice
returns-then-choice c = let A = c.args in λ σ es s w ch. outcome-nothing σ s (get_or es A.k blank) (sym ch.nothing ∙ c.if-choice.true)

pub returns-then-readable_any : goal.returns-then-readable_any
returns-then-readable_any c = let A = c.args in λ σ es s w ch. outcome-some σ s (get_or es A.k blank) (sym (c.readable_any.ensures σ es s w ch) ∙ c.if-readable_any.true)

pub discloses-requires : goal.discloses-requires
discloses-requires c = let A = c.args in ((A.d.now, A.p.now, c.requires.0), c.requires.1, c.requires.2)

pub returns-then-discloses : goal.returns-then-discloses
returns-then-discloses c = let A = c.args in λ σ es s w ch. outcome-disclosed σ s (get_or es A.k blank) (sym ch.nothing ∙ c.if-choice.false) (sym (c.readable_any.ensures σ es s w ch) ∙ c.if-readable_any.false) (sym (c.discloses.ensures σ es s A.d.now A.p.now w ch) ∙ c.if-discloses.true)

pub returns : goal.returns
returns c = let A = c.args in λ σ es s w ch. outcome-hidden σ s (get_or es A.k blank) (sym ch.nothing ∙ c.if-choice.false) (sym (c.readable_any.ensures σ es s w ch) ∙ c.if-readable_any.false) (sym (c.discloses.ensures σ es s A.d.now A.p.now w ch) ∙ c.if-discloses.false)
