use mathlib.Core.Path.{ap}
use mathlib.Core.List.{List}
use lib.ListN.{length}
use Rattle.rules.specs.Sheet.{Line, print}
use Rattle.rules.specs.Serve.{fitting}
use Rattle.tables.specs.Book.{width}
use Rattle.answer_choice.specs.Selected.{selection_of}
use Rattle.answer_choice.specs.Laws.Selected.{selection-noted}
use Rattle.answer_reply.specs.Laws.Reply.{replies-same}
use borrow.Author.Rules.{rules}
use Rattle.engine.proofs.respond.respond.Goals as goal

pub choice_of-choice-requires : goal.choice_of-choice-requires
choice_of-choice-requires c = let A = c.args in let P = c.requires in let E = P.0.2.entries in (E.fits, E.distinct, (selection_of P.1.1.operation, selection-noted (width A.book.now) A.q.now A.asked P.1.0 P.1.1.operation P.1.2.operation))

pub plan_of-plan-requires : goal.plan_of-plan-requires
plan_of-plan-requires c = let A = c.args in let P = c.requires in ((P.0.0, P.0.1, P.1.0, P.1.1, (record { world = P.0.2; noted = P.1.2; chosen = c.choice_of-choice.ensures (selection_of P.1.1.operation) (selection-noted (width A.book.now) A.q.now A.asked P.1.0 P.1.1.operation P.1.2.operation) })), search rules)

pub write-requires : goal.write-requires
write-requires c = let A = c.args in let P = c.requires in (P.0, c.plan_of-plan.ensures.0, (selection_of P.1.1.operation, c.choice_of-choice.ensures (selection_of P.1.1.operation) (selection-noted (width A.book.now) A.q.now A.asked P.1.0 P.1.1.operation P.1.2.operation)))

pub returns : goal.returns
returns c = let A = c.args in let b = A.book.now in λ σ es G x w N. let C = c.choice_of-choice.ensures (selection_of x.operation) (selection-noted (width b) A.q.now A.asked G x.operation N.operation) in replies-same (ap (λ (ls : List Line). fitting (length A.out.now) (print (width b) ls)) (c.plan_of-plan.ensures.1 σ es G x (record { world = w; noted = N; chosen = C })).0) (c.write.ensures σ es (selection_of x.operation) w C)
