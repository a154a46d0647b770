use mathlib.Core.Bool.{Bool, cond}
use mathlib.Core.Path.{sym, ap, ◌∙◌}
use Rattle.answer_resolution.proofs.way.disclosed.Goals as goal

pub returns-then-may_entry : goal.returns-then-may_entry
returns-then-may_entry c = let a = c.args in (λ n h g. h, λ σ es d p book held h l. ap (λ (b : Bool). cond b a.e a.last) (sym c.if-may_entry.true ∙ c.may_entry.ensures σ es d p book held h l))

pub returns : goal.returns
returns c = let a = c.args in (λ n h g. g, λ σ es d p book held h l. ap (λ (b : Bool). cond b a.e a.last) (sym c.if-may_entry.false ∙ c.may_entry.ensures σ es d p book held h l))
