use Prim.Native.Nat.{ℕ, ◌-◌}
use mathlib.Core.Path.{◌≡◌, refl, ap, ◌∙◌}
use native.Mathlib.Omega.{arith}
use mathlib.Core.List.{List}
use mathlib.Core.List.{map}
use Rattle.rules.specs.Directory.{entry_of}
use Rattle.rules.specs.Request.{Operation, compare, list}
use Rattle.rules.specs.Answer.{answer}
use Rattle.tables.specs.Book.{width, schema}
use Rattle.tables.specs.Choice.{Chooses}
use Rattle.tables.specs.Plan.{aliases_of, planned}
use Rattle.answer_choice.specs.Selected.{nothing_selected, selection_of}
use Rattle.answer_entry.specs.Passing.{over}
use Rattle.answer_operation.specs.Hits.{found_by}
use Rattle.answer_operation.specs.Laws.Operations.{by_read, by-compare, by-list, by-search, value-within}
use mathlib.Core.Path.{ap₂}
use Rattle.answer_search.specs.Query.{KnownQuery}
use Rattle.answer_operation.specs.Laws.Posed.{sought-base, sought-choice}
use Rattle.answer_operation.proofs.plan_at.Goals as goal

pub read-requires : goal.read-requires
read-requires c = let P = c.requires.0 in (sought-base P, sought-choice P)

pub returns-then-asked-eq-READ : goal.returns-then-asked-eq-READ
returns-then-asked-eq-READ c = let A = c.args in let b = A.book.now in let R = c.read.result in (c.read.ensures.0 A.hits.now, λ σ es G x n Q B. let w = Q.world in let N = Q.noted in let C = Q.chosen in by_read G (width b) A.q.now A.asked (λ (o : Operation). Chooses (schema b) (selection_of o) A.choice → planned σ es (selection_of o) R A.hits.now ≡ answer σ (map entry_of es) (aliases_of σ es) n o) x.operation N.operation c.if-asked-eq-READ.true (λ s. λ ch. c.read.ensures.1 σ es n s A.hits.now w ch B) C, λ σ es G x w N. by_read G (width b) A.q.now A.asked (λ (o : Operation). A.hits.now ≡ over (found_by σ es A.sought.base o) A.hits.now) x.operation N.operation c.if-asked-eq-READ.true (λ s. refl))

pub part-v-requires : goal.part-v-requires
part-v-requires c = let A = c.args in let b = A.book.now in let P = c.requires.0 in value-within P.2 (width b) A.q.now A.asked P.3.operation P.5.noted.operation c.if-asked-eq-COMPARE.true

pub compare-requires : goal.compare-requires
compare-requires c = sought-base c.requires.0

pub returns-then-asked-eq-COMPARE : goal.returns-then-asked-eq-COMPARE
returns-then-asked-eq-COMPARE c = let A = c.args in let b = A.book.now in let R = c.compare.result in (c.compare.ensures.0 A.hits.now, λ σ es G x n Q B. let w = Q.world in let N = Q.noted in let C = Q.chosen in by-compare G (width b) A.q.now A.asked (λ (o : Operation). Chooses (schema b) (selection_of o) A.choice → planned σ es (selection_of o) R A.hits.now ≡ answer σ (map entry_of es) (aliases_of σ es) n o) x.operation N.operation c.if-asked-eq-COMPARE.true (λ t v et ev. λ ch. c.compare.ensures.1 σ es n nothing_selected A.hits.now w B ∙ ap₂ (λ (i : ℕ) (u : List ℕ). answer σ (map entry_of es) (aliases_of σ es) n (compare i u)) et (c.part-v.ensures ∙ ev)) C, λ σ es G x w N. by-compare G (width b) A.q.now A.asked (λ (o : Operation). A.hits.now ≡ over (found_by σ es A.sought.base o) A.hits.now) x.operation N.operation c.if-asked-eq-COMPARE.true (λ t v et ev. refl))

pub list-requires : goal.list-requires
list-requires c = let A = c.args in let P = c.requires in (P.1, (A.d.now, A.p.now, A.held.now, sought-base P.0))

pub returns-then-asked-eq-LIST : goal.returns-then-asked-eq-LIST
returns-then-asked-eq-LIST c = let A = c.args in let b = A.book.now in let R = c.list.result in (c.list.ensures.0, λ σ es G x n Q B. let w = Q.world in let N = Q.noted in let C = Q.chosen in by-list G (width b) A.q.now A.asked (λ (o : Operation). Chooses (schema b) (selection_of o) A.choice → planned σ es (selection_of o) R c.list.new.hits ≡ answer σ (map entry_of es) (aliases_of σ es) n o) x.operation N.operation c.if-asked-eq-LIST.true (λ m e. λ ch. c.list.ensures.1 σ es A.d.now A.p.now A.held.now n nothing_selected w B ∙ ap (λ (i : ℕ). answer σ (map entry_of es) (aliases_of σ es) n (list i)) e) C, λ σ es G x w N. by-list G (width b) A.q.now A.asked (λ (o : Operation). c.list.new.hits ≡ over (found_by σ es A.sought.base o) A.hits.now) x.operation N.operation c.if-asked-eq-LIST.true (λ m e. c.list.ensures.2 σ es A.d.now A.p.now A.held.now w))

pub search-requires : goal.search-requires
search-requires c = let A = c.args in let P = c.requires in let b = A.book.now in (
  sought-base P.0,
  P.1,
  omega (arith, P.0.5.world.entries.fits.narrow, P.0.5.noted.short),
  by-search P.0.2 (width b) A.q.now A.asked (λ (o : Operation). KnownQuery (width b) A.q.now (record { limit = A.asked.limit; order_type = A.asked.order_type; falling = A.asked.falling; subset = A.asked.subset; filter = A.asked.filter; edition = A.asked.edition })) P.0.3.operation P.0.5.noted.operation c.if-asked-eq-READ.false c.if-asked-eq-COMPARE.false c.if-asked-eq-LIST.false (λ s sk. (P.0.2, s, sk)),
)

pub returns : goal.returns
returns c = let A = c.args in let b = A.book.now in let R = c.search.result in (c.search.ensures.0, λ σ es G x n Q B. let w = Q.world in let N = Q.noted in let C = Q.chosen in by-search G (width b) A.q.now A.asked (λ (o : Operation). Chooses (schema b) (selection_of o) A.choice → planned σ es (selection_of o) R c.search.new.hits ≡ answer σ (map entry_of es) (aliases_of σ es) n o) x.operation N.operation c.if-asked-eq-READ.false c.if-asked-eq-COMPARE.false c.if-asked-eq-LIST.false (λ s sk. λ ch. c.search.ensures.1 σ es G n s w B sk) C, λ σ es G x w N. by-search G (width b) A.q.now A.asked (λ (o : Operation). c.search.new.hits ≡ over (found_by σ es A.sought.base o) A.hits.now) x.operation N.operation c.if-asked-eq-READ.false c.if-asked-eq-COMPARE.false c.if-asked-eq-LIST.false (λ s sk. c.search.ensures.2 σ es G s w sk))
