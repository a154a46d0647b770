use mathlib.Core.Path.{sym, ◌∙◌}
use Rattle.answer_entry.specs.Laws.Returned.{browse-granted, browse-base, browse-refused}
use Rattle.answer_entry.proofs.browsable.Goals as goal

pub returns-then-may_entry : goal.returns-then-may_entry
returns-then-may_entry c = λ σ es d p book held w l. browse-granted σ es c.args.e c.args.base (sym (c.may_entry.ensures σ es d p book held w l) ∙ c.if-may_entry.true)

pub returns-then-base : goal.returns-then-base
returns-then-base c = λ σ es d p book held w l. c.may_entry-then-base.ensures σ es d p book held w l ∙ browse-base σ es c.args.e c.args.base (sym (c.may_entry.ensures σ es d p book held w l) ∙ c.if-may_entry.false) c.if-base.true

pub returns : goal.returns
returns c = λ σ es d p book held w l. browse-refused σ es c.args.e c.args.base (sym (c.may_entry.ensures σ es d p book held w l) ∙ c.if-may_entry.false) c.if-base.false
