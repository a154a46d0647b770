use Prim.Native.Nat.{◌^◌}
use mathlib.Core.Path.{sym, ◌∙◌}
use Rattle.answer_entry.specs.Laws.Opening.{opens-granted, opens-disclosed, opens-hidden}
use Rattle.answer_entry.proofs.opening.Goals as goal

pub returns-then-may_entry : goal.returns-then-may_entry
returns-then-may_entry c = λ σ es d p book held w l. opens-granted σ es c.args.e (2 ^ c.args.q) (sym (c.may_entry.ensures σ es d p book held w l) ∙ c.if-may_entry.true)

pub returns-then-may_entry-2 : goal.returns-then-may_entry-2
returns-then-may_entry-2 c = λ σ es d p book held w l. opens-disclosed σ es c.args.e (2 ^ c.args.q) (sym (c.may_entry.ensures σ es d p book held w l) ∙ c.if-may_entry.false) (sym (c.may_entry-2.ensures σ es d p book held w l) ∙ c.if-may_entry-2.true)

pub returns : goal.returns
returns c = λ σ es d p book held w l. opens-hidden σ es c.args.e (2 ^ c.args.q) (sym (c.may_entry.ensures σ es d p book held w l) ∙ c.if-may_entry.false) (sym (c.may_entry-2.ensures σ es d p book held w l) ∙ c.if-may_entry-2.false)
