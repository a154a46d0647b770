use Prim.Native.Nat.{ℕ}
use mathlib.Core.Path.{sym, ap, ◌∙◌, subst}
use mathlib.Core.List.{List}
use native.Mathlib.Omega.{arith}
use Rattle.rules.specs.Answer.{outcome}
use Rattle.rules.specs.declared.Outcome.TheVariants.{AliasProblem}
use Rattle.tables.specs.Book.{width, entry_count}
use Rattle.tables.specs.Plan.{planned}
use Rattle.tables.specs.Sound.{SoundPlan}
use Rattle.tables.specs.declared.plan.Plan.{Plan}
use Rattle.tables.specs.Laws.Outcome.{refused-planned, refused-sound}
use Rattle.answer_choice.specs.Selected.{selection_of}
use Rattle.answer_entry.specs.Passing.{over}
use Rattle.answer_operation.specs.Laws.Posed.{posed-full, to-sought, to-problem, answer-named, answer-problem, found-named, found_none, operation-is}
use borrow.Author.Rules.{rules}
use Rattle.answer_operation.proofs.plan_of.Goals as goal

pub resolve_name-requires : goal.resolve_name-requires
resolve_name-requires c = let A = c.args in let h = c.requires.0 in ((A.p.now, A.held.now, (h.0, h.1, h.4.world)), posed-full h)

pub plan_at-requires : goal.plan_at-requires
plan_at-requires c = let A = c.args in let h = c.requires.0 in let T = to-sought h.4 _ (c.resolve_name.ensures h.0 h.1 A.p.now A.held.now h.4.world) c.in-Some.is in ((h.0, h.1, h.2, h.3, T.0, h.4, T.1), search rules)

pub returns-in-Some : goal.returns-in-Some
returns-in-Some c = let A = c.args in (c.plan_at.ensures.0, λ σ es G x Q. let T = to-sought Q _ (c.resolve_name.ensures σ es A.p.now A.held.now Q.world) c.in-Some.is in (c.plan_at.ensures.1 σ es G x T.0 Q T.1 ∙ answer-named σ es x.base x.operation T.0 T.2, c.plan_at.ensures.2 σ es G x Q.world Q.noted ∙ ap (λ (f : List ℕ). over f A.hits.now) (found-named σ es x.base x.operation T.0 _ _ T.1 T.2)))

pub returns-in-None : goal.returns-in-None
returns-in-None c = let A = c.args in let b = A.book.now in (subst (λ (r : Plan). SoundPlan (entry_count b) r A.hits.now) (sym c.refused.ensures) (refused-sound (entry_count b) A.hits.now A.asked.operation AliasProblem), λ σ es G x Q. let z = to-problem Q _ (c.resolve_name.ensures σ es A.p.now A.held.now Q.world) c.in-None.is in (ap (λ (r : Plan). planned σ es (selection_of x.operation) r A.hits.now) c.refused.ensures ∙ refused-planned σ es (selection_of x.operation) A.hits.now A.asked.operation AliasProblem (omega arith) ∙ ap (λ (o : ℕ). outcome o AliasProblem) (operation-is G (width b) A.q.now A.asked x.operation Q.noted.operation) ∙ answer-problem σ es x.base x.operation z, found_none σ es x.base x.operation A.hits.now z))
