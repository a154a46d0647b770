use mathlib.Core.Path.{◌≡◌, refl}
use native.Mathlib.Omega.{arith}
use lib.ListN.{length}
use Rattle.tables.specs.Book.{width, type_count, schema}
use Rattle.tables.specs.Laws.Book.{schema-length}
use Rattle.answer_choice.specs.Laws.Selected.{chooses-listed, chooses-all}
use Rattle.answer_choice.proofs.choice_of.Goals as goal

pub returns-then-asked : goal.returns-then-asked
returns-then-asked c = let b = c.args.book.now in λ s h. chooses-listed (width b) c.args.q.now c.args.asked s h (schema b) c.if-asked.true _ c.ranks_listed.ensures refl refl

pub returns : goal.returns
returns c = let b = c.args.book.now in let P = c.requires in let n : length (schema b) ≡ type_count b = schema-length P.0 in λ s h. chooses-all (width b) c.args.q.now c.args.asked s h (schema b) c.if-asked.false (omega (arith, n, P.0.few-types)) _ refl refl refl
