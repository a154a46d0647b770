use mathlib.Core.Path.{sym, ◌∙◌}
use Rattle.answer_entry.specs.Laws.Returned.{return-asked, return_refused}
use Rattle.answer_entry.proofs.returnable.Goals as goal

pub returns-then-browsable : goal.returns-then-browsable
returns-then-browsable c = λ σ es d p book held w l. c.may_entry.ensures σ es d p book held w l ∙ return-asked σ es c.args.e c.args.base (sym (c.browsable.ensures σ es d p book held w l) ∙ c.if-browsable.true)

pub returns : goal.returns
returns c = λ σ es d p book held w l. return_refused σ es c.args.e c.args.base (sym (c.browsable.ensures σ es d p book held w l) ∙ c.if-browsable.false)
